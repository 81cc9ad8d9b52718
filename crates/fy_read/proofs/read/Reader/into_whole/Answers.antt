use Rattle.std.proofs.Common.{inr, length, sym, ◌∙◌}
use Rattle.fy_read.specs.Opened.{nodes_of}
use Rattle.fy_read.specs.OpenLevels.{levels_of}
use Rattle.fy_derive.specs.Reading.{plain_derivation}
use Rattle.fy_read.proofs.PieceAnswers.{whole_read, whole_finish, no_finish, not_whole, mapped_none}
use Rattle.fy_read.proofs.PassLemmas.{whole_within}
use Rattle.fy_read.proofs.read.Reader.into_whole.Goals as goal

pub returns-in_default-clause-err : goal.returns-in_default-clause-err
returns-in_default-clause-err c =
    let r = c.end.new.self in λ is h. no_finish r.awaited (nodes_of r.nodes) (length (levels_of r.levels).outer) c.in_default.not-Node
    (sym c.in_ok-end.ensures.ended ∙ h)

pub returns-in_default-into_whole-clause-err : goal.returns-in_default-into_whole-clause-err
returns-in_default-into_whole-clause-err c =
    let r = c.end.new.self in
    λ is h. not_whole (nodes_of r.nodes) (length (levels_of r.levels).outer) c.in-Node.is
    (mapped_none plain_derivation c.into_whole.result (nodes_of r.nodes).whole c.in_default-into_whole.is c.into_whole.ensures)
    (sym c.in_ok-end.ensures.ended ∙ h)

pub returns-clause-ok : goal.returns-clause-ok
returns-clause-ok c =
    let r = c.end.new.self in
    c.in_ok-end.ensures.ended
    ∙ whole_finish (nodes_of r.nodes) (plain_derivation c.in-Some.d) (length (levels_of r.levels).outer) c.in-Node.is (sym c.in-Some.ensures)

pub returns-clause-read : goal.returns-clause-read
returns-clause-read c =
    λ text h. let t = c.in_ok-end.ensures.read text h in whole_read (plain_derivation c.in-Some.d) c.in-Node.is (sym c.in-Some.ensures) t.holds

pub returns-clause-within : goal.returns-clause-within
returns-clause-within c =
    λ text h. let t = c.in_ok-end.ensures.read text h in
    whole_within (plain_derivation c.in-Some.d) c.in-Node.is (sym c.in-Some.ensures) t.holds

pub returns-clause-names : goal.returns-clause-names
returns-clause-names c = inr c.in_ok-end.ensures.named

pub returns-in_default-clause-names : goal.returns-in_default-clause-names
returns-in_default-clause-names c = inr c.in_ok-end.ensures.named

pub returns-in_default-into_whole-clause-names : goal.returns-in_default-into_whole-clause-names
returns-in_default-into_whole-clause-names c = inr c.in_ok-end.ensures.named
