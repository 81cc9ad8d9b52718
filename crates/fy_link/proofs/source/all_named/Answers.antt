use Rattle.std.proofs.Common.{◌+◌, map, take, drop}
use Rattle.fy_front.specs.Checked.{IfRefused}
use Rattle.fy_front.specs.declared.error.FrontError.TheVariants.{OutOfMemory}
use Rattle.fy_front.proofs.Checking.{handed}
use Rattle.fy_link.specs.Read.{plain_piece, plain_named}
use Rattle.fy_link.specs.Sources.{IsTypeFault}
use Rattle.fy_link.proofs.Ends.{inside-at}
use Rattle.fy_link.proofs.SourceLemmas.{type-fault, pieces-split, names-more}
use Rattle.fy_link.proofs.source.all_named.Goals as goal

pub named_by-requires : goal.named_by-requires
named_by-requires c = inside-at c.args.pieces.now c.loop-piece.piece-index c.piece-item.result c.requires c.loop-piece-test.true c.piece-item.is

pub returns-in_err-named_by-clause-err : goal.returns-in_err-named_by-clause-err
returns-in_err-named_by-clause-err c =
    let xs = c.args.pieces.now in
    let i = c.loop-piece.piece-index in
    let e = c.in_err-named_by.field-0.0 in
    handed c.from_residual.result e (IfRefused (IsTypeFault c.args.at (map plain_piece xs))) c.from_residual.ensures.1
    (type-fault c.args.at (map plain_piece xs) (map plain_piece (take i xs)) (map plain_piece (drop (i + 1) xs)) (plain_piece c.piece-item.result) (map plain_named c.loop-piece.all.items) e
    (pieces-split xs i c.piece-item.result c.loop-piece-test.true c.piece-item.is) c.loop-piece.invariant c.in_err-named_by.ensures.err)

pub returns-in_err-push-clause-err : goal.returns-in_err-push-clause-err
returns-in_err-push-clause-err c =
    handed c.from_residual-in_err-push.result OutOfMemory (IfRefused (IsTypeFault c.args.at (map plain_piece c.args.pieces.now))) c.from_residual-in_err-push.ensures.1 tt

pub loop-piece-preserved : goal.loop-piece-preserved
loop-piece-preserved c =
    names-more c.args.at c.args.pieces.now c.loop-piece.piece-index c.piece-item.result c.loop-piece.all.items c.push.new.self.items c.in_ok-named_by.field-0
    c.loop-piece.invariant c.loop-piece-test.true c.piece-item.is c.in_ok-named_by.ensures.ok c.in_ok-push.ensures.items
