use Rattle.std.proofs.Common.{rules, ◌≡◌, ◌<◌, length, sym, ap, ◌∙◌, arith}
use Rattle.std.specs.Prelude.{Ok, Err}
use Rattle.fy_lexer.specs.declared.token.Symbol.TheVariants as symbol
use Rattle.fy_syntax.specs.Reader.{Fault, name_at, dots_at}
use Rattle.fy_grammar.specs.Gives.{Stops}
use Rattle.fy_grammar.specs.declared.stop.Stop.{Stop}
use Rattle.fy_grammar.proofs.TypeLoops.{stops_along}
use Rattle.fy_grammar.proofs.TermLoops.{dots_fail}
use Rattle.fy_grammar.proofs.Many.{reads_on_next, reads_on_end, many, after, after_some, after_none, dots_many}
use Rattle.fy_grammar.proofs.Links.{reads_on_no}
use Rattle.fy_grammar.proofs.Advance.{after_advances, behind_less, names_take}
use Rattle.fy_grammar.proofs.terms.dots.Goals as goal

pub loop-rest-init : goal.loop-rest-init
loop-rest-init c = reads_on_no (after symbol.Dot name_at) c.new-names.result c.args.tokens.now c.new-names.ensures

pub loop-rest-smaller : goal.loop-rest-smaller
loop-rest-smaller c =
    let l : length c.in_ok-selected.next.now < length c.behind.result.now = names_take.less c.behind.result.now (c.in_ok-selected.selected, c.in_ok-selected.next.now) c.in_ok-selected.ensures in
    omega (arith, l, behind_less c.loop-rest.rest.now, ap length c.behind.ensures)

pub loop-rest-preserved : goal.loop-rest-preserved
loop-rest-preserved c =
    rw c.in_ok-push.ensures.ok
    (reads_on_next (after symbol.Dot name_at) (many (length c.args.tokens.now) (after symbol.Dot name_at) c.args.tokens.now) c.loop-rest.names c.loop-rest.rest.now c.in_ok-selected.selected c.in_ok-selected.next.now
    (after_advances symbol.Dot name_at names_take) c.loop-rest.invariant
    (after_some symbol.Dot name_at c.loop-rest.rest.now (Ok (c.in_ok-selected.selected, c.in_ok-selected.next.now)) (sym c.loop-rest-test.ensures) (rw c.behind.ensures at c.in_ok-selected.ensures)))

pub returns : goal.returns
returns c =
    dots_many (length c.args.tokens.now) c.args.tokens.now
    ∙ reads_on_end (after symbol.Dot name_at) (many (length c.args.tokens.now) (after symbol.Dot name_at) c.args.tokens.now) c.loop-rest.names c.loop-rest.rest.now c.loop-rest.invariant (after_none symbol.Dot name_at c.loop-rest.rest.now (sym c.loop-rest-test.ensures))

pub returns-in_err-selected : goal.returns-in_err-selected
returns-in_err-selected c =
    let f : (x : Fault) → name_at c.behind.result.now ≡ Err x → dots_at (length c.args.tokens.now) c.args.tokens.now ≡ Err x =
    λ x e. dots_fail c.loop-rest.names c.args.tokens.now c.loop-rest.rest.now x c.loop-rest.invariant (sym c.loop-rest-test.ensures) (rw c.behind.ensures at e) in
    let g : (s : Stop) → Stops s (name_at c.behind.result.now) → Stops s (dots_at (length c.args.tokens.now) c.args.tokens.now) = λ s. stops_along s (name_at c.behind.result.now) (dots_at (length c.args.tokens.now) c.args.tokens.now) f in
    first_of (search (rules, g), search (rules, f), grind (arith, f), grind (arith, g), search (rules, g, f) depth 9)
