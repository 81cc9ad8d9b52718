use Rattle.std.proofs.Common.{rules, ◌≡◌, ◌<◌, length, map, sym, ap, ◌∙◌, arith}
use Rattle.std.specs.Prelude.{Ok, Err}
use Rattle.fy_lexer.specs.declared.token.Symbol.TheVariants as symbol
use Rattle.fy_syntax.specs.Reading.{type_tree, types_in, types_from}
use Rattle.fy_syntax.specs.Reader.{Fault, mapped, type_field, type_inner, types_at}
use Rattle.fy_syntax.proofs.ReadLemmas.{type_trees-at}
use Rattle.fy_syntax.specs.Trees.{TypeTrees}
use Rattle.fy_grammar.specs.Gives.{Stops}
use Rattle.fy_grammar.specs.declared.stop.Stop.{Stop}
use Rattle.fy_grammar.proofs.TypeLoops.{members_fail, stops_along}
use Rattle.fy_grammar.proofs.Many.{reads_on_push, reads_on_end, after, after_some, after_none, behind_first, types_first}
use Rattle.fy_grammar.proofs.Advance.{after_advances, behind_less, fields_take}
use Rattle.fy_grammar.proofs.types.+types.Goals as goal

pub members-loop-alloc-smaller : goal.members-loop-alloc-smaller
members-loop-alloc-smaller t c =
    let l : length c.in_ok-member.next.now < length c.behind.result.now = (fields_take c.args.left).less c.behind.result.now (type_tree c.in_ok-member.member, c.in_ok-member.next.now) c.in_ok-member.ensures in
    omega (arith, l, behind_less c.loop-alloc.rest.now, ap length c.behind.ensures)

pub members-loop-alloc-preserved : goal.members-loop-alloc-preserved
members-loop-alloc-preserved t c =
    reads_on_push (after symbol.Ampersand (type_field (type_inner c.args.left))) (behind_first (after symbol.Ampersand (type_field (type_inner c.args.left))) (type_tree c.args.first) c.args.tokens.now) type_tree (types_in c.loop-alloc.members) (types_in c.push-in-loop-alloc.new.self)
    c.in_ok-member.member c.loop-alloc.rest.now c.in_ok-member.next.now
    (after_advances symbol.Ampersand (type_field (type_inner c.args.left)) (fields_take c.args.left)) c.loop-alloc.invariant
    (after_some symbol.Ampersand (type_field (type_inner c.args.left)) c.loop-alloc.rest.now (Ok (type_tree c.in_ok-member.member, c.in_ok-member.next.now)) (sym c.loop-alloc-test.ensures) (rw c.behind.ensures at c.in_ok-member.ensures))
    c.in_ok-push-2.ensures.ok

pub members-returns : goal.members-returns
members-returns t c =
    types_first symbol.Ampersand (type_field (type_inner c.args.left)) (type_tree c.args.first) c.args.tokens.now
    ∙ ap (mapped types_from) (reads_on_end (after symbol.Ampersand (type_field (type_inner c.args.left))) (behind_first (after symbol.Ampersand (type_field (type_inner c.args.left))) (type_tree c.args.first) c.args.tokens.now) (map type_tree (types_in c.loop-alloc.members)) c.loop-alloc.rest.now c.loop-alloc.invariant (after_none symbol.Ampersand (type_field (type_inner c.args.left)) c.loop-alloc.rest.now (sym c.loop-alloc-test.ensures)))
    ∙ ap (λ l. Ok (l, c.loop-alloc.rest.now)) (sym (type_trees-at c.loop-alloc.members))

pub members-returns-in_err-member : goal.members-returns-in_err-member
members-returns-in_err-member t c =
    let f : (x : Fault) → type_field (type_inner c.args.left) c.behind.result.now ≡ Err x → mapped (TypeTrees.and_type (type_tree c.args.first)) (types_at (length c.args.tokens.now) symbol.Ampersand (type_field (type_inner c.args.left)) c.args.tokens.now) ≡ Err x =
    λ x e. members_fail c.args.left (type_tree c.args.first) (map type_tree (types_in c.loop-alloc.members)) c.args.tokens.now c.loop-alloc.rest.now x c.loop-alloc.invariant (sym c.loop-alloc-test.ensures) (rw c.behind.ensures at e) in
    let g : (s : Stop) → Stops s (type_field (type_inner c.args.left) c.behind.result.now) → Stops s (mapped (TypeTrees.and_type (type_tree c.args.first)) (types_at (length c.args.tokens.now) symbol.Ampersand (type_field (type_inner c.args.left)) c.args.tokens.now)) = λ s. stops_along s (type_field (type_inner c.args.left) c.behind.result.now) (mapped (TypeTrees.and_type (type_tree c.args.first)) (types_at (length c.args.tokens.now) symbol.Ampersand (type_field (type_inner c.args.left)) c.args.tokens.now)) f in
    first_of (search (rules, g), search (rules, f), grind (arith, f), grind (arith, g), search (rules, g, f) depth 9)
