use Rattle.std.proofs.Common.{◌≡◌, ◌+◌, ◌<◌, ◌≤◌, if◌then◌else◌, arith, ap, drop, length, map, refl, sym, Bool, List, None, Some, Bor, ◌∷◌, ◌∙◌}
use Rattle.std.specs.Prelude.{option_map, slice_get}
use Rattle.fy_phrase.specs.Reads.{reads}
use Rattle.fy_derive.specs.Derivations.{count, nodes}
use Rattle.fy_derive.specs.Reading.{derivations_from, plain_derivation, plain_derivations}
use Rattle.fy_derive.specs.Rules.{Premise}
use Rattle.fy_derive.proofs.ReadLemmas.{count-from}
use Rattle.fy_show.specs.declared.entries.KnownNames.{KnownNames}
use Rattle.fy_show.specs.Entries.{Scope}
use Rattle.fy_show.specs.Fresh.{bound}
use Rattle.fy_show.specs.Reading.{known_in, known_read, scope_in, scope_read}
use Rattle.fy_show.proofs.ScopeLemmas.{scope-inside}
use Rattle.fy_told.specs.Reading.{premise_read}
use Rattle.fy_told.specs.ReasonTexts.{names_at, names_in, names_under, premise_parts, premises_at, whole_premises}
use Rattle.fy_told.proofs.InLemmas.{at-same, behind, here-none, here-part, here-whole, nodes-same, put-same}
use Rattle.fy_told.proofs.StepLemmas.{in-end, items-room}
use Rattle.fy_told.proofs.refusal.+refusal.Goals as goal

pub put_in-returns-then-is_whole : goal.put_in-returns-then-is_whole
put_in-returns-then-is_whole t c =
    let xs = c.as_slice-items.result.now in
    let i = c.loop-i.i in
    let x = c.index-items-i.result in
    let y = c.index-items-i-then-is_whole.result in
    let k = known_in c.args.view.now in
    let s = scope_in c.args.view.now in
    let p = reads c.args.p.now in
    let n = count (plain_derivations c.args.list.now) in
    let h : i < length xs = omega (arith, c.loop-i-test.true) in
    let here = items-room xs i x h c.index-items-i.is in
    let same = nodes-same xs i x y h c.index-items-i.is c.index-items-i-then-is_whole.is in
    let next : c.saturating_add-behind.result ≡ c.loop-i.next + nodes (plain_derivation x) =
    omega (arith, c.saturating_add-behind.ensures, c.nodes_of.ensures, here, c.loop-i.invariant.room) in
    let l : c.args.stop.now.number < c.loop-i.next + nodes (plain_derivation y) = omega (arith, next, same, c.if-stop-behind.true) in
    let counted : n ≡ length xs = ap count c.as_slice-items.ensures.reading ∙ count-from xs in
    let g : i < n = omega (arith, counted, h) in
    let all : Scope = names_in k c.args.stop.now.number (plain_derivations c.args.list.now) c.args.at s p (if c.args.is_whole then whole_premises (count (plain_derivations c.args.list.now)) p else premises_at p) in
    let names : names_at k c.args.stop.now.number (plain_derivation y) c.loop-i.next s p ≡ all = sym (here-whole k c.args.stop.now.number c.loop-i.next s p xs i y n c.args.is_whole h c.index-items-i-then-is_whole.is c.if-is_whole.true g l) ∙ c.loop-i.invariant.names in
    put-same c.put_at.result c.put_at.new.text.items c.loop-i.text.items c.args.text.now.items k k (names_at k c.args.stop.now.number (plain_derivation y) c.loop-i.next s p) all c.loop-i.table c.args.table.now c.args.stop.now c.put_at.ensures
    c.loop-i.invariant.unput refl names c.loop-i.invariant.unnumbered

pub put_in-returns-in_default : goal.put_in-returns-in_default
put_in-returns-in_default t c =
    let xs = c.as_slice-items.result.now in
    let i = c.loop-i.i in
    let k = known_in c.args.view.now in
    let s = scope_in c.args.view.now in
    let p = reads c.args.p.now in
    let n = count (plain_derivations c.args.list.now) in
    let asked : option_map premise_read c.premise_at.result ≡ slice_get (premise_parts p) i = c.premise_at.ensures in
    let none : slice_get (premise_parts p) i ≡ None = sym asked ∙ ap (option_map premise_read) c.in_default.is in
    let all : Scope = names_in k c.args.stop.now.number (plain_derivations c.args.list.now) c.args.at s p (if c.args.is_whole then whole_premises (count (plain_derivations c.args.list.now)) p else premises_at p) in
    let names : s ≡ all = sym (here-none k c.args.stop.now.number c.loop-i.next s p xs i n c.args.is_whole c.if-is_whole.false none) ∙ c.loop-i.invariant.names in
    put-same c.put_stop.result c.put_stop.new.text.items c.loop-i.text.items c.args.text.now.items k k (s) all c.loop-i.table c.args.table.now c.args.stop.now c.put_stop.ensures
    c.loop-i.invariant.unput refl names c.loop-i.invariant.unnumbered

pub put_in-returns-then-not-premise : goal.put_in-returns-then-not-premise
put_in-returns-then-not-premise t c =
    let xs = c.as_slice-items.result.now in
    let i = c.loop-i.i in
    let x = c.index-items-i.result in
    let y = c.index-items-i-then-not-premise.result in
    let k = known_in c.args.view.now in
    let s = scope_in c.args.view.now in
    let p = reads c.args.p.now in
    let q = reads c.in-Some.premise.part.now in
    let m = c.args.stop.now.number in
    let n = count (plain_derivations c.args.list.now) in
    let h : i < length xs = omega (arith, c.loop-i-test.true) in
    let here = items-room xs i x h c.index-items-i.is in
    let same = nodes-same xs i x y h c.index-items-i.is c.index-items-i-then-not-premise.is in
    let next : c.saturating_add-behind.result ≡ c.loop-i.next + nodes (plain_derivation x) =
    omega (arith, c.saturating_add-behind.ensures, c.nodes_of.ensures, here, c.loop-i.invariant.room) in
    let l : m < c.loop-i.next + nodes (plain_derivation y) = omega (arith, next, same, c.if-stop-behind.true) in
    let asked : option_map premise_read c.premise_at.result ≡ slice_get (premise_parts p) i = c.premise_at.ensures in
    let some : slice_get (premise_parts p) i ≡ Some (c.in-Some.premise.is_inside, q) = sym asked ∙ ap (option_map premise_read) c.in-Some.is in
    let part = here-part k m c.loop-i.next s p xs i y n c.args.is_whole c.in-Some.premise.is_inside q h c.index-items-i-then-not-premise.is c.if-is_whole.false some l in
    let under = ap (λ (b : Bool). names_at k m (plain_derivation y) c.loop-i.next (names_under k s p b) q) c.if-not-premise.true in
    let all : Scope = names_in k c.args.stop.now.number (plain_derivations c.args.list.now) c.args.at s p (if c.args.is_whole then whole_premises (count (plain_derivations c.args.list.now)) p else premises_at p) in
    let names : names_at k m (plain_derivation y) c.loop-i.next s q ≡ all = sym (part ∙ under) ∙ c.loop-i.invariant.names in
    put-same c.put_at-then-not-premise.result c.put_at-then-not-premise.new.text.items c.loop-i.text.items c.args.text.now.items k k (names_at k m (plain_derivation y) c.loop-i.next s q) all c.loop-i.table c.args.table.now c.args.stop.now c.put_at-then-not-premise.ensures
    c.loop-i.invariant.unput refl names c.loop-i.invariant.unnumbered

pub put_in-returns-then-stop-behind : goal.put_in-returns-then-stop-behind
put_in-returns-then-stop-behind t c =
    let xs = c.as_slice-items.result.now in
    let i = c.loop-i.i in
    let x = c.index-items-i.result in
    let y = c.index-items-i-then-stop-behind.result in
    let k = known_in c.args.view.now in
    let s = scope_in c.args.view.now in
    let p = reads c.args.p.now in
    let q = reads c.in-Some.premise.part.now in
    let m = c.args.stop.now.number in
    let n = count (plain_derivations c.args.list.now) in
    let h : i < length xs = omega (arith, c.loop-i-test.true) in
    let here = items-room xs i x h c.index-items-i.is in
    let same = nodes-same xs i x y h c.index-items-i.is c.index-items-i-then-stop-behind.is in
    let next : c.saturating_add-behind.result ≡ c.loop-i.next + nodes (plain_derivation x) =
    omega (arith, c.saturating_add-behind.ensures, c.nodes_of.ensures, here, c.loop-i.invariant.room) in
    let l : m < c.loop-i.next + nodes (plain_derivation y) = omega (arith, next, same, c.if-stop-behind.true) in
    let asked : option_map premise_read c.premise_at.result ≡ slice_get (premise_parts p) i = c.premise_at.ensures in
    let some : slice_get (premise_parts p) i ≡ Some (c.in-Some.premise.is_inside, q) = sym asked ∙ ap (option_map premise_read) c.in-Some.is in
    let part = here-part k m c.loop-i.next s p xs i y n c.args.is_whole c.in-Some.premise.is_inside q h c.index-items-i-then-stop-behind.is c.if-is_whole.false some l in
    let under = ap (λ (b : Bool). names_at k m (plain_derivation y) c.loop-i.next (names_under k s p b) q) c.if-not-premise.false in
    let inner = known_in c.in_scope-inside.result in
    let inside = scope_in c.in_scope-inside.result in
    let known : inner ≡ k = ap (λ (b : Bor KnownNames). known_read b.now) c.in_scope-inside.ensures.known in
    let scope : inside ≡ bound k s p ∷ s = ap scope_read c.in_scope-inside.ensures.scope ∙ (scope-inside _ c.args.view.now.scope ∙ ap (λ e. e ∷ s) c.in_ok-entry.ensures) in
    let all : Scope = names_in k c.args.stop.now.number (plain_derivations c.args.list.now) c.args.at s p (if c.args.is_whole then whole_premises (count (plain_derivations c.args.list.now)) p else premises_at p) in
    let names : names_at inner m (plain_derivation y) c.loop-i.next inside q ≡ all = at-same inner k m c.loop-i.next (plain_derivation y) inside (bound k s p ∷ s) q known scope ∙ (sym (part ∙ under) ∙ c.loop-i.invariant.names) in
    put-same c.put_at-then-stop-behind.result c.put_at-then-stop-behind.new.text.items c.loop-i.text.items c.args.text.now.items inner k (names_at inner m (plain_derivation y) c.loop-i.next inside q) all c.loop-i.table c.args.table.now c.args.stop.now c.put_at-then-stop-behind.ensures
    c.loop-i.invariant.unput known names c.loop-i.invariant.unnumbered

pub put_in-loop-i-preserved : goal.put_in-loop-i-preserved
put_in-loop-i-preserved t c =
    let xs = c.as_slice-items.result.now in
    let i = c.loop-i.i in
    let x = c.index-items-i.result in
    let k = known_in c.args.view.now in
    let s = scope_in c.args.view.now in
    let p = reads c.args.p.now in
    let m = c.args.stop.now.number in
    let Qs : List Premise = if c.args.is_whole then whole_premises (count (plain_derivations c.args.list.now)) p else premises_at p in
    let h : i < length xs = omega (arith, c.loop-i-test.true) in
    let here = items-room xs i x h c.index-items-i.is in
    let next : c.saturating_add-behind.result ≡ c.loop-i.next + nodes (plain_derivation x) =
    omega (arith, c.saturating_add-behind.ensures, c.nodes_of.ensures, here, c.loop-i.invariant.room) in
    let l : c.loop-i.next + nodes (plain_derivation x) ≤ m = omega (arith, next, c.if-stop-behind.false) in
    record {
      unput = c.loop-i.invariant.unput;
      unnumbered = c.loop-i.invariant.unnumbered;
      room = omega (arith, next, here, c.loop-i.invariant.room);
      names =
          ap (λ z. names_in k m (derivations_from (map plain_derivation (drop (i + 1) xs))) z s p (drop (i + 1) Qs)) next
          ∙ (sym (behind k m c.loop-i.next s p xs i x Qs h c.index-items-i.is l)
          ∙ c.loop-i.invariant.names);
    }

pub put_in-returns : goal.put_in-returns
put_in-returns t c =
    let xs = c.as_slice-items.result.now in
    let i = c.loop-i.i in
    let k = known_in c.args.view.now in
    let s = scope_in c.args.view.now in
    let p = reads c.args.p.now in
    let Qs : List Premise = if c.args.is_whole then whole_premises (count (plain_derivations c.args.list.now)) p else premises_at p in
    let past : length xs ≤ i = omega (arith, c.loop-i-test.false) in
    let all : Scope = names_in k c.args.stop.now.number (plain_derivations c.args.list.now) c.args.at s p (if c.args.is_whole then whole_premises (count (plain_derivations c.args.list.now)) p else premises_at p) in
    let names : s ≡ all = sym (in-end k c.args.stop.now.number c.loop-i.next s p xs i (drop i Qs) past) ∙ c.loop-i.invariant.names in
    put-same c.put_stop-2.result c.put_stop-2.new.text.items c.loop-i.text.items c.args.text.now.items k k (s) all c.loop-i.table c.args.table.now c.args.stop.now c.put_stop-2.ensures
    c.loop-i.invariant.unput refl names c.loop-i.invariant.unnumbered
