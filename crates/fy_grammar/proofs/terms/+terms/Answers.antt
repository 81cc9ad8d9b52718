use Rattle.std.proofs.Common.{rules, ◌≡◌, ◌<◌, length, map, sym, ap, ◌∙◌, arith, ◌∷◌, ◌-◌}
use Rattle.std.specs.Prelude.{Ok, Err}
use Rattle.fy_lexer.specs.declared.token.Symbol.TheVariants as symbol
use Rattle.fy_syntax.specs.Trees.{Trees, Defs}
use Rattle.fy_syntax.specs.Signs.{Level, front}
use Rattle.fy_syntax.specs.Reading.{tree_of, trees_from, phrases_in, def_of, defs_from, defs_in, link_of, links_from, links_in, decl_tree, defs_of}
use Rattle.fy_syntax.specs.Reader.{Fault, mapped, read_at, read_term, trees_at, defs_at, arguments_at, links_at, select_at, inner, behind, expect_word, read_type, decl_at, decls_at, def_at, letrec_at}
use Rattle.fy_syntax.proofs.ReadLemmas.{trees_of-at, defs_of-at, links_of-at}
use Rattle.fy_grammar.specs.Gives.{Stops}
use Rattle.fy_grammar.specs.Levels.{level_of}
use Rattle.fy_grammar.specs.declared.stop.Stop.{Stop}
use Rattle.fy_grammar.proofs.TypeLoops.{stops_along}
use Rattle.fy_grammar.proofs.TermLoops.{members_fail, defs_fail, arguments_fail, links_fail}
use Rattle.fy_grammar.proofs.Many.{reads_on_push, reads_on_none, reads_on_end, many, link, links_many, after, after_some, after_none, argument, argument_some, argument_none, def, behind_first, trees_first, defs_first, arguments_many}
use Rattle.fy_grammar.proofs.Links.{link_read, link_none}
use Rattle.fy_grammar.proofs.Advance.{after_advances, argument_advances, link_advances, behind_less, trees_take, defs_take}
use Rattle.fy_syntax.specs.declared.surface.Link.{roll-Link}
use Rattle.fy_grammar.proofs.Made.{link_made}
use Rattle.fy_grammar.specs.Forms.{def_tree, within, forcing, read_form}
use Rattle.fy_grammar.proofs.Parts.{letrec_stops_3, letrec_stops_5}
use Rattle.fy_lexer.specs.declared.token.Keyword.TheVariants as word
use Rattle.fy_grammar.proofs.FormSigns.{term_form}
use Rattle.fy_grammar.proofs.Stopping.{term_within}
use Rattle.fy_grammar.proofs.terms.+terms.Goals as goal

pub members-loop-alloc-smaller : goal.members-loop-alloc-smaller
members-loop-alloc-smaller t c =
    let l : length c.in_ok-member.next.now < length c.behind.result.now = (trees_take c.args.left (level_of c.args.level)).less c.behind.result.now (tree_of c.in_ok-member.member, c.in_ok-member.next.now) c.in_ok-member.ensures in
    omega (arith, l, behind_less c.loop-alloc.rest.now, ap length c.behind.ensures)

pub members-loop-alloc-preserved : goal.members-loop-alloc-preserved
members-loop-alloc-preserved t c =
    reads_on_push (after c.args.separator (read_at c.args.left (level_of c.args.level))) (behind_first (after c.args.separator (read_at c.args.left (level_of c.args.level))) (tree_of c.args.first) c.args.tokens.now) tree_of (phrases_in c.loop-alloc.members) (phrases_in c.push-in-loop-alloc.new.self)
    c.in_ok-member.member c.loop-alloc.rest.now c.in_ok-member.next.now
    (after_advances c.args.separator (read_at c.args.left (level_of c.args.level)) (trees_take c.args.left (level_of c.args.level))) c.loop-alloc.invariant
    (after_some c.args.separator (read_at c.args.left (level_of c.args.level)) c.loop-alloc.rest.now (Ok (tree_of c.in_ok-member.member, c.in_ok-member.next.now)) (sym c.loop-alloc-test.ensures) (rw c.behind.ensures at c.in_ok-member.ensures))
    c.in_ok-push-2.ensures.ok

pub members-returns : goal.members-returns
members-returns t c =
    trees_first c.args.separator (read_at c.args.left (level_of c.args.level)) (tree_of c.args.first) c.args.tokens.now
    ∙ ap (mapped trees_from) (reads_on_end (after c.args.separator (read_at c.args.left (level_of c.args.level))) (behind_first (after c.args.separator (read_at c.args.left (level_of c.args.level))) (tree_of c.args.first) c.args.tokens.now) (map tree_of (phrases_in c.loop-alloc.members)) c.loop-alloc.rest.now c.loop-alloc.invariant (after_none c.args.separator (read_at c.args.left (level_of c.args.level)) c.loop-alloc.rest.now (sym c.loop-alloc-test.ensures)))
    ∙ ap (λ l. Ok (l, c.loop-alloc.rest.now)) (sym (trees_of-at c.loop-alloc.members))

pub members-returns-in_err-member : goal.members-returns-in_err-member
members-returns-in_err-member t c =
    let f : (x : Fault) → read_at c.args.left (level_of c.args.level) c.behind.result.now ≡ Err x → mapped (Trees.and_tree (tree_of c.args.first)) (trees_at (length c.args.tokens.now) c.args.separator (read_at c.args.left (level_of c.args.level)) c.args.tokens.now) ≡ Err x =
    λ x e. members_fail c.args.left (level_of c.args.level) c.args.separator (tree_of c.args.first) (map tree_of (phrases_in c.loop-alloc.members)) c.args.tokens.now c.loop-alloc.rest.now x c.loop-alloc.invariant (sym c.loop-alloc-test.ensures) (rw c.behind.ensures at e) in
    let g : (s : Stop) → Stops s (read_at c.args.left (level_of c.args.level) c.behind.result.now) → Stops s (mapped (Trees.and_tree (tree_of c.args.first)) (trees_at (length c.args.tokens.now) c.args.separator (read_at c.args.left (level_of c.args.level)) c.args.tokens.now)) = λ s. stops_along s (read_at c.args.left (level_of c.args.level) c.behind.result.now) (mapped (Trees.and_tree (tree_of c.args.first)) (trees_at (length c.args.tokens.now) c.args.separator (read_at c.args.left (level_of c.args.level)) c.args.tokens.now)) f in
    first_of (search (rules, g), search (rules, f), grind (arith, f), grind (arith, g))

pub defs-loop-alloc-smaller : goal.defs-loop-alloc-smaller
defs-loop-alloc-smaller t c =
    let l : length c.in_ok-next_def.next.now < length c.behind.result.now = (defs_take c.args.left).less c.behind.result.now (def_of c.in_ok-next_def.next_def, c.in_ok-next_def.next.now) c.in_ok-next_def.ensures in
    omega (arith, l, behind_less c.loop-alloc.rest.now, ap length c.behind.ensures)

pub defs-loop-alloc-preserved : goal.defs-loop-alloc-preserved
defs-loop-alloc-preserved t c =
    reads_on_push (after symbol.Comma (def (read_term c.args.left))) (behind_first (after symbol.Comma (def (read_term c.args.left))) (def_of c.args.first) c.args.tokens.now) def_of (defs_in c.loop-alloc.defs) (defs_in c.push-in-loop-alloc.new.self)
    c.in_ok-next_def.next_def c.loop-alloc.rest.now c.in_ok-next_def.next.now
    (after_advances symbol.Comma (def (read_term c.args.left)) (defs_take c.args.left)) c.loop-alloc.invariant
    (after_some symbol.Comma (def (read_term c.args.left)) c.loop-alloc.rest.now (Ok (def_of c.in_ok-next_def.next_def, c.in_ok-next_def.next.now)) (sym c.loop-alloc-test.ensures) (rw c.behind.ensures at c.in_ok-next_def.ensures))
    c.in_ok-push-2.ensures.ok

pub defs-returns : goal.defs-returns
defs-returns t c =
    defs_first (read_term c.args.left) (def_of c.args.first) c.args.tokens.now
    ∙ ap (mapped defs_from) (reads_on_end (after symbol.Comma (def (read_term c.args.left))) (behind_first (after symbol.Comma (def (read_term c.args.left))) (def_of c.args.first) c.args.tokens.now) (map def_of (defs_in c.loop-alloc.defs)) c.loop-alloc.rest.now c.loop-alloc.invariant (after_none symbol.Comma (def (read_term c.args.left)) c.loop-alloc.rest.now (sym c.loop-alloc-test.ensures)))
    ∙ ap (λ l. Ok (l, c.loop-alloc.rest.now)) (sym (defs_of-at c.loop-alloc.defs))

pub defs-returns-in_err-next_def : goal.defs-returns-in_err-next_def
defs-returns-in_err-next_def t c =
    let f : (x : Fault) → def (read_term c.args.left) c.behind.result.now ≡ Err x → mapped (Defs.and_def (def_of c.args.first).name (def_of c.args.first).at (def_of c.args.first).body) (defs_at (length c.args.tokens.now) (read_term c.args.left) c.args.tokens.now) ≡ Err x =
    λ x e. defs_fail c.args.left (def_of c.args.first) (map def_of (defs_in c.loop-alloc.defs)) c.args.tokens.now c.loop-alloc.rest.now x c.loop-alloc.invariant (sym c.loop-alloc-test.ensures) (rw c.behind.ensures at e) in
    let g : (s : Stop) → Stops s (def (read_term c.args.left) c.behind.result.now) → Stops s (mapped (Defs.and_def (def_of c.args.first).name (def_of c.args.first).at (def_of c.args.first).body) (defs_at (length c.args.tokens.now) (read_term c.args.left) c.args.tokens.now)) = λ s. stops_along s (def (read_term c.args.left) c.behind.result.now) (mapped (Defs.and_def (def_of c.args.first).name (def_of c.args.first).at (def_of c.args.first).body) (defs_at (length c.args.tokens.now) (read_term c.args.left) c.args.tokens.now)) f in
    first_of (search (rules, g), search (rules, f), grind (arith, f), grind (arith, g))

pub arguments-loop-alloc-init : goal.arguments-loop-alloc-init
arguments-loop-alloc-init t c = reads_on_none (argument (select_at (inner c.args.left))) tree_of (phrases_in c.new-arguments.result) c.args.tokens.now c.new-arguments.ensures

pub arguments-loop-alloc-smaller : goal.arguments-loop-alloc-smaller
arguments-loop-alloc-smaller t c = (trees_take c.args.left Level.select).less c.loop-alloc.rest.now (tree_of c.in_ok-argument.argument, c.in_ok-argument.next.now) c.in_ok-argument.ensures

pub arguments-loop-alloc-preserved : goal.arguments-loop-alloc-preserved
arguments-loop-alloc-preserved t c =
    reads_on_push (argument (select_at (inner c.args.left))) (many (length c.args.tokens.now) (argument (select_at (inner c.args.left))) c.args.tokens.now) tree_of (phrases_in c.loop-alloc.arguments) (phrases_in c.push.new.self)
    c.in_ok-argument.argument c.loop-alloc.rest.now c.in_ok-argument.next.now
    (argument_advances (select_at (inner c.args.left)) (trees_take c.args.left Level.select)) c.loop-alloc.invariant
    (argument_some (select_at (inner c.args.left)) c.loop-alloc.rest.now (Ok (tree_of c.in_ok-argument.argument, c.in_ok-argument.next.now)) (sym c.loop-alloc-test.ensures) c.in_ok-argument.ensures)
    c.in_ok-push.ensures.ok

pub arguments-returns : goal.arguments-returns
arguments-returns t c =
    arguments_many (length c.args.tokens.now) (select_at (inner c.args.left)) c.args.tokens.now
    ∙ ap (mapped trees_from) (reads_on_end (argument (select_at (inner c.args.left))) (many (length c.args.tokens.now) (argument (select_at (inner c.args.left))) c.args.tokens.now) (map tree_of (phrases_in c.loop-alloc.arguments)) c.loop-alloc.rest.now c.loop-alloc.invariant (argument_none (select_at (inner c.args.left)) c.loop-alloc.rest.now (sym c.loop-alloc-test.ensures)))
    ∙ ap (λ l. Ok (l, c.loop-alloc.rest.now)) (sym (trees_of-at c.loop-alloc.arguments))

pub arguments-returns-in_err-argument : goal.arguments-returns-in_err-argument
arguments-returns-in_err-argument t c =
    let f : (x : Fault) → select_at (inner c.args.left) c.loop-alloc.rest.now ≡ Err x → arguments_at (length c.args.tokens.now) (select_at (inner c.args.left)) c.args.tokens.now ≡ Err x =
    λ x e. arguments_fail c.args.left (map tree_of (phrases_in c.loop-alloc.arguments)) c.args.tokens.now c.loop-alloc.rest.now x c.loop-alloc.invariant (sym c.loop-alloc-test.ensures) e in
    let g : (s : Stop) → Stops s (select_at (inner c.args.left) c.loop-alloc.rest.now) → Stops s (arguments_at (length c.args.tokens.now) (select_at (inner c.args.left)) c.args.tokens.now) = λ s. stops_along s (select_at (inner c.args.left) c.loop-alloc.rest.now) (arguments_at (length c.args.tokens.now) (select_at (inner c.args.left)) c.args.tokens.now) f in
    first_of (search (rules, g), search (rules, f), grind (arith, f), grind (arith, g), search (rules, g, f) depth 9)

pub links-loop-op-init : goal.links-loop-op-init
links-loop-op-init t c = reads_on_none (link (level_of c.args.level) (read_at c.args.left (level_of c.args.operand))) link_of (links_in c.new-links.result) c.args.tokens.now c.new-links.ensures

pub links-loop-op-smaller : goal.links-loop-op-smaller
links-loop-op-smaller t c =
    let l : length c.in_ok-item.next.now < length c.behind.result.now = (trees_take c.args.left (level_of c.args.operand)).less c.behind.result.now (tree_of c.in_ok-item.item, c.in_ok-item.next.now) c.in_ok-item.ensures in
    omega (arith, l, behind_less c.loop-op.rest.now, ap length c.behind.ensures)

pub links-loop-op-preserved : goal.links-loop-op-preserved
links-loop-op-preserved t c =
    reads_on_push (link (level_of c.args.level) (read_at c.args.left (level_of c.args.operand))) (many (length c.args.tokens.now) (link (level_of c.args.level) (read_at c.args.left (level_of c.args.operand))) c.args.tokens.now) link_of (links_in c.loop-op.links) (links_in c.push.new.self)
    (roll-Link (record { op = c.in-Some.op; at = c.front-at.result; item = c.in_ok-item.item })) c.loop-op.rest.now c.in_ok-item.next.now
    (link_advances (level_of c.args.level) (read_at c.args.left (level_of c.args.operand)) (trees_take c.args.left (level_of c.args.operand))) c.loop-op.invariant
    (link_read (level_of c.args.level) (read_at c.args.left (level_of c.args.operand)) c.loop-op.rest.now c.in_ok-item.next.now c.in-Some.op (tree_of c.in_ok-item.item) (link_of (roll-Link (record { op = c.in-Some.op; at = c.front-at.result; item = c.in_ok-item.item }))) (sym c.in-Some.ensures) (rw c.behind.ensures at c.in_ok-item.ensures)
    (link_made c.in-Some.op c.front-at.result (front c.loop-op.rest.now) c.in_ok-item.item c.front-at.ensures))
    c.in_ok-push.ensures.ok

pub links-returns : goal.links-returns
links-returns t c =
    links_many (length c.args.tokens.now) (level_of c.args.level) (read_at c.args.left (level_of c.args.operand)) c.args.tokens.now
    ∙ ap (mapped links_from) (reads_on_end (link (level_of c.args.level) (read_at c.args.left (level_of c.args.operand))) (many (length c.args.tokens.now) (link (level_of c.args.level) (read_at c.args.left (level_of c.args.operand))) c.args.tokens.now) (map link_of (links_in c.loop-op.links)) c.loop-op.rest.now c.loop-op.invariant (link_none (level_of c.args.level) (read_at c.args.left (level_of c.args.operand)) c.loop-op.rest.now (sym c.in_default.ensures)))
    ∙ ap (λ l. Ok (l, c.loop-op.rest.now)) (sym (links_of-at c.loop-op.links))

pub links-returns-in_err-item : goal.links-returns-in_err-item
links-returns-in_err-item t c =
    let f : (x : Fault) → read_at c.args.left (level_of c.args.operand) c.behind.result.now ≡ Err x → links_at (length c.args.tokens.now) (level_of c.args.level) (read_at c.args.left (level_of c.args.operand)) c.args.tokens.now ≡ Err x =
    λ x e. links_fail (level_of c.args.level) (level_of c.args.operand) c.args.left (map link_of (links_in c.loop-op.links)) c.args.tokens.now c.loop-op.rest.now c.in-Some.op x c.loop-op.invariant (sym c.in-Some.ensures) (rw c.behind.ensures at e) in
    let g : (s : Stop) → Stops s (read_at c.args.left (level_of c.args.operand) c.behind.result.now) → Stops s (links_at (length c.args.tokens.now) (level_of c.args.level) (read_at c.args.left (level_of c.args.operand)) c.args.tokens.now) = λ s. stops_along s (read_at c.args.left (level_of c.args.operand) c.behind.result.now) (links_at (length c.args.tokens.now) (level_of c.args.level) (read_at c.args.left (level_of c.args.operand)) c.args.tokens.now) f in
    first_of (search (rules, g), search (rules, f), grind (arith, f), grind (arith, g), search (rules, g, f) depth 9)

pub letrec-returns-in_err-first : goal.letrec-returns-in_err-first
letrec-returns-in_err-first t c =
    let e0 : decl_at (read_type c.args.left) (behind c.args.tokens.now) ≡ Ok (decl_tree c.in_ok-first_decl.first_decl, c.in_ok-first_decl.rest.now) = rw c.behind.ensures at c.in_ok-first_decl.ensures in
    let e1 : mapped (λ more. decl_tree c.in_ok-first_decl.first_decl ∷ more) (decls_at (length c.in_ok-first_decl.rest.now) (read_type c.args.left) c.in_ok-first_decl.rest.now) ≡ Ok (map decl_tree c.in_ok-declared.declared, c.in_ok-declared.rest.now) = c.in_ok-declared.ensures in
    let e2 : expect_word word.Where c.in_ok-declared.rest.now ≡ Ok c.in_ok-rest.rest.now = c.in_ok-rest.ensures in
    let g : (s : Stop) → Stops s (mapped def_tree (def_at (read_term c.args.left) c.in_ok-rest.rest.now)) → Stops s (letrec_at (within c.args.left) (front c.args.tokens.now) (behind c.args.tokens.now)) =
    λ s h. letrec_stops_3 (within c.args.left) (front c.args.tokens.now) (behind c.args.tokens.now) _ _ _ _ _ s e0 e1 e2 h in
    search (rules, g)

pub letrec-returns-in_err-rest-2 : goal.letrec-returns-in_err-rest-2
letrec-returns-in_err-rest-2 t c =
    let e0 : decl_at (read_type c.args.left) (behind c.args.tokens.now) ≡ Ok (decl_tree c.in_ok-first_decl.first_decl, c.in_ok-first_decl.rest.now) = rw c.behind.ensures at c.in_ok-first_decl.ensures in
    let e1 : mapped (λ more. decl_tree c.in_ok-first_decl.first_decl ∷ more) (decls_at (length c.in_ok-first_decl.rest.now) (read_type c.args.left) c.in_ok-first_decl.rest.now) ≡ Ok (map decl_tree c.in_ok-declared.declared, c.in_ok-declared.rest.now) = c.in_ok-declared.ensures in
    let e2 : expect_word word.Where c.in_ok-declared.rest.now ≡ Ok c.in_ok-rest.rest.now = c.in_ok-rest.ensures in
    let e3 : mapped def_tree (def_at (read_term c.args.left) c.in_ok-rest.rest.now) ≡ Ok (def_of c.in_ok-first.first, c.in_ok-first.rest.now) = c.in_ok-first.ensures in
    let e4 : mapped (Defs.and_def (def_of c.in_ok-first.first).name (def_of c.in_ok-first.first).at (def_of c.in_ok-first.first).body) (defs_at (length c.in_ok-first.rest.now) (read_term c.args.left) c.in_ok-first.rest.now) ≡ Ok (defs_of c.in_ok-all.all, c.in_ok-all.at_in.now) = c.in_ok-all.ensures in
    let g : (s : Stop) → Stops s (expect_word word.In c.in_ok-all.at_in.now) → Stops s (letrec_at (within c.args.left) (front c.args.tokens.now) (behind c.args.tokens.now)) =
    λ s h. letrec_stops_5 (within c.args.left) (front c.args.tokens.now) (behind c.args.tokens.now) _ _ _ _ _ _ _ _ _ s e0 e1 e2 e3 e4 h in
    search (rules, g)

pub term-returns-else-left-eq0 : goal.term-returns-else-left-eq0
term-returns-else-left-eq0 t c =
    let e : read_term c.args.left c.args.tokens.now ≡ read_form c.in-Some.form (within (c.args.left - 1)) c.args.tokens.now =
    term_form (inner c.args.left) c.args.tokens.now c.in-Some.form (sym c.in-Some.ensures)
    ∙ term_within c.args.left (forcing c.in-Some.form c.args.tokens.now) (λ i. read_form c.in-Some.form i c.args.tokens.now) (omega arith) in
    rw e c.formed.ensures
