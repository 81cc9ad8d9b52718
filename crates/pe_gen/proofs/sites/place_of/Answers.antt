use Rattle.std.proofs.Common.{sym, ◌∙◌}
use Rattle.pe_gen.proofs.KeyLists.{found-key, key-found}
use Rattle.pe_gen.proofs.KeyTests.{same_pair, same_pair-refl, same_pair-true}
use Rattle.pe_gen.proofs.sites.place_of.Goals as goal

pub unwrap-requires : goal.unwrap-requires
unwrap-requires c =
    c.get_index_of.ensures.found
    ∙ key-found same_pair same_pair-true same_pair-refl c.args.pairs.now.keys c.args.pair c.requires.0 c.requires.1

pub returns : goal.returns
returns c =
    found-key same_pair same_pair-true same_pair-refl c.args.pairs.now.keys c.args.pair c.unwrap.result (sym c.get_index_of.ensures.index ∙ c.unwrap.ensures)
