use Rattle.std.proofs.Common.{rules, ◌≡◌, ◌∷◌, ◌<◌, length, map, sym, ap, ◌∙◌, arith}
use Rattle.std.specs.Prelude.{Ok, Err}
use Rattle.fy_lexer.specs.declared.token.Symbol.TheVariants as symbol
use Rattle.fy_syntax.specs.Reading.{decl_tree}
use Rattle.fy_syntax.specs.Reader.{Fault, decl_at, read_type, mapped, decls_at}
use Rattle.fy_grammar.specs.Gives.{Stops}
use Rattle.fy_grammar.specs.declared.stop.Stop.{Stop}
use Rattle.fy_grammar.proofs.TypeLoops.{decls_fail, stops_along}
use Rattle.fy_grammar.proofs.Many.{reads_on_push, reads_on_end, after, after_some, after_none, behind_first, decls_first}
use Rattle.fy_grammar.proofs.Advance.{after_advances, behind_less, decls_take}
use Rattle.fy_grammar.proofs.types.decls.Goals as goal

pub loop-alloc-smaller : goal.loop-alloc-smaller
loop-alloc-smaller c =
    let l : length c.in_ok-next_decl.next.now < length c.behind.result.now = (decls_take c.args.left).less c.behind.result.now (decl_tree c.in_ok-next_decl.next_decl, c.in_ok-next_decl.next.now) c.in_ok-next_decl.ensures in
    omega (arith, l, behind_less c.loop-alloc.rest.now, ap length c.behind.ensures)

pub loop-alloc-preserved : goal.loop-alloc-preserved
loop-alloc-preserved c =
    reads_on_push (after symbol.Comma (decl_at (read_type c.args.left))) (behind_first (after symbol.Comma (decl_at (read_type c.args.left))) (decl_tree c.args.first) c.args.tokens.now) decl_tree (c.loop-alloc.decls) (c.push-in-loop-alloc.new.self)
    c.in_ok-next_decl.next_decl c.loop-alloc.rest.now c.in_ok-next_decl.next.now
    (after_advances symbol.Comma (decl_at (read_type c.args.left)) (decls_take c.args.left)) c.loop-alloc.invariant
    (after_some symbol.Comma (decl_at (read_type c.args.left)) c.loop-alloc.rest.now (Ok (decl_tree c.in_ok-next_decl.next_decl, c.in_ok-next_decl.next.now)) (sym c.loop-alloc-test.ensures) (rw c.behind.ensures at c.in_ok-next_decl.ensures))
    c.in_ok-push-2.ensures.ok

pub returns : goal.returns
returns c =
    decls_first (read_type c.args.left) (decl_tree c.args.first) c.args.tokens.now
    ∙ reads_on_end (after symbol.Comma (decl_at (read_type c.args.left))) (behind_first (after symbol.Comma (decl_at (read_type c.args.left))) (decl_tree c.args.first) c.args.tokens.now) (map decl_tree (c.loop-alloc.decls)) c.loop-alloc.rest.now c.loop-alloc.invariant (after_none symbol.Comma (decl_at (read_type c.args.left)) c.loop-alloc.rest.now (sym c.loop-alloc-test.ensures))

pub returns-in_err-next_decl : goal.returns-in_err-next_decl
returns-in_err-next_decl c =
    let f : (x : Fault) → decl_at (read_type c.args.left) c.behind.result.now ≡ Err x → mapped (λ more. decl_tree c.args.first ∷ more) (decls_at (length c.args.tokens.now) (read_type c.args.left) c.args.tokens.now) ≡ Err x =
    λ x e. decls_fail c.args.left (decl_tree c.args.first) (map decl_tree c.loop-alloc.decls) c.args.tokens.now c.loop-alloc.rest.now x c.loop-alloc.invariant (sym c.loop-alloc-test.ensures) (rw c.behind.ensures at e) in
    let g : (s : Stop) → Stops s (decl_at (read_type c.args.left) c.behind.result.now) → Stops s (mapped (λ more. decl_tree c.args.first ∷ more) (decls_at (length c.args.tokens.now) (read_type c.args.left) c.args.tokens.now)) = λ s. stops_along s (decl_at (read_type c.args.left) c.behind.result.now) (mapped (λ more. decl_tree c.args.first ∷ more) (decls_at (length c.args.tokens.now) (read_type c.args.left) c.args.tokens.now)) f in
    first_of (search (rules, g), search (rules, f), grind (arith, f), grind (arith, g), search (rules, g, f) depth 9)
