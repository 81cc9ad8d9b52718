use Rattle.std.proofs.Common.{rules, ◌≡◌, ◌<◌, length, map, sym, ap, ◌∙◌, arith}
use Rattle.std.specs.Prelude.{Ok, Err}
use Rattle.fy_lexer.specs.declared.token.Symbol.TheVariants as symbol
use Rattle.fy_syntax.specs.Reading.{type_tree, types_in, types_from}
use Rattle.fy_syntax.specs.Reader.{Fault, mapped, read_type, types_at}
use Rattle.fy_syntax.proofs.ReadLemmas.{type_trees-at}
use Rattle.fy_syntax.specs.Trees.{TypeTrees}
use Rattle.fy_grammar.specs.Gives.{Stops}
use Rattle.fy_grammar.specs.declared.stop.Stop.{Stop}
use Rattle.fy_grammar.proofs.TypeLoops.{alternatives_fail, stops_along}
use Rattle.fy_grammar.proofs.Many.{reads_on_push, reads_on_end, after, after_some, after_none, behind_first, types_first}
use Rattle.fy_grammar.proofs.Advance.{after_advances, behind_less, types_take}
use Rattle.fy_grammar.proofs.types.alternatives.Goals as goal

pub loop-alloc-smaller : goal.loop-alloc-smaller
loop-alloc-smaller c =
    let l : length c.in_ok-alternative.next.now < length c.behind.result.now = (types_take c.args.left).less c.behind.result.now (type_tree c.in_ok-alternative.alternative, c.in_ok-alternative.next.now) c.in_ok-alternative.ensures in
    omega (arith, l, behind_less c.loop-alloc.rest.now, ap length c.behind.ensures)

pub loop-alloc-preserved : goal.loop-alloc-preserved
loop-alloc-preserved c =
    reads_on_push (after symbol.Bar (read_type c.args.left)) (behind_first (after symbol.Bar (read_type c.args.left)) (type_tree c.args.first) c.args.tokens.now) type_tree (types_in c.loop-alloc.alternatives) (types_in c.push-in-loop-alloc.new.self)
    c.in_ok-alternative.alternative c.loop-alloc.rest.now c.in_ok-alternative.next.now
    (after_advances symbol.Bar (read_type c.args.left) (types_take c.args.left)) c.loop-alloc.invariant
    (after_some symbol.Bar (read_type c.args.left) c.loop-alloc.rest.now (Ok (type_tree c.in_ok-alternative.alternative, c.in_ok-alternative.next.now)) (sym c.loop-alloc-test.ensures) (rw c.behind.ensures at c.in_ok-alternative.ensures))
    c.in_ok-push-2.ensures.ok

pub returns : goal.returns
returns c =
    types_first symbol.Bar (read_type c.args.left) (type_tree c.args.first) c.args.tokens.now
    ∙ ap (mapped types_from) (reads_on_end (after symbol.Bar (read_type c.args.left)) (behind_first (after symbol.Bar (read_type c.args.left)) (type_tree c.args.first) c.args.tokens.now) (map type_tree (types_in c.loop-alloc.alternatives)) c.loop-alloc.rest.now c.loop-alloc.invariant (after_none symbol.Bar (read_type c.args.left) c.loop-alloc.rest.now (sym c.loop-alloc-test.ensures)))
    ∙ ap (λ l. Ok (l, c.loop-alloc.rest.now)) (sym (type_trees-at c.loop-alloc.alternatives))

pub returns-in_err-alternative : goal.returns-in_err-alternative
returns-in_err-alternative c =
    let f : (x : Fault) → read_type c.args.left c.behind.result.now ≡ Err x → mapped (TypeTrees.and_type (type_tree c.args.first)) (types_at (length c.args.tokens.now) symbol.Bar (read_type c.args.left) c.args.tokens.now) ≡ Err x =
    λ x e. alternatives_fail c.args.left (type_tree c.args.first) (map type_tree (types_in c.loop-alloc.alternatives)) c.args.tokens.now c.loop-alloc.rest.now x c.loop-alloc.invariant (sym c.loop-alloc-test.ensures) (rw c.behind.ensures at e) in
    let g : (s : Stop) → Stops s (read_type c.args.left c.behind.result.now) → Stops s (mapped (TypeTrees.and_type (type_tree c.args.first)) (types_at (length c.args.tokens.now) symbol.Bar (read_type c.args.left) c.args.tokens.now)) = λ s. stops_along s (read_type c.args.left c.behind.result.now) (mapped (TypeTrees.and_type (type_tree c.args.first)) (types_at (length c.args.tokens.now) symbol.Bar (read_type c.args.left) c.args.tokens.now)) f in
    first_of (search (rules, g), search (rules, f), grind (arith, f), grind (arith, g), search (rules, g, f) depth 9)
