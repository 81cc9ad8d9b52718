-- The whole text of a phrase inside the prelude is read again.
use Rattle.std.proofs.Common.{◌≡◌, ℕ, zero, suc, ◌+◌, ◌-◌, true, false, is_none, List, [], ◌∷◌, ◌++◌, codes, refl, sym, ap, subst, ◌∙◌, arith, append-nil}
use Rattle.std.proofs.lemmas.Bool.{false≢true}
use Rattle.std.proofs.lemmas.Slice.Eq.{bytes_eq-Decides}
use Rattle.fy_base.specs.Outside.{Bytes}
use Rattle.fy_base.specs.Places.{first_place}
use Rattle.fy_base.specs.declared.data.Place.{Place}
use Rattle.fy_types.specs.Names.{AreNames, first_names, has, number_of}
use Rattle.fy_types.specs.Words.{is_identifier}
use Rattle.fy_lexer.specs.declared.token.Token.{Token}
use Rattle.fy_lexer.specs.declared.token.TokenKind.TheVariants as kind
use Rattle.fy_lexer.specs.Reading.{reading_of}
use Rattle.fy_lexer.specs.Again.{kinds}
use Rattle.fy_syntax.specs.Signs.{Level, token}
use Rattle.fy_syntax.specs.Spells.{SpellsBefore}
use Rattle.fy_phrase.specs.Tree as plain
use Rattle.fy_expand.specs.Core.{used}
use Rattle.fy_expand.specs.Scope.{program_scope}
use Rattle.fy_show.specs.declared.binders.Binder.{Binder}
use Rattle.fy_show.specs.Entries.{one, entry_at, has_name}
use Rattle.fy_show.specs.Texts.{form, text_of}
use Rattle.fy_again.specs.Phrases.{plainly, prelude, PhrasesAreReadAgain}
use Rattle.fy_again.proofs.FaultLemmas.{same_names}
use Rattle.fy_again.proofs.EndLemmas.{Follows}
use Rattle.fy_again.proofs.LevelLemmas.{lower}
use Rattle.fy_again.proofs.ReadAgainLemmas.{shows}
use Rattle.fy_again.proofs.ReadLemmas.{Reads, reads_end, reads_same, peel, none_left}
use Rattle.fy_again.proofs.ShortLemmas.{kinds-append}
use Rattle.fy_again.proofs.StandingLemmas.{entry_later, Stands, AllStand}

-- a name of the prelude stands for its variable
first_stands : (names : List Bytes) → AreNames names → (t y : Bytes) (n q : ℕ) → has_name t (one y) ≡ true → is_identifier y ≡ true → ((later : List Bytes) → has (first_names ++ later) y ≡ true) →
    ((later : List Bytes) → n ≡ number_of (first_names ++ later) y) → is_none (program_scope.phrases n) ≡ false → ((more : ℕ) (here : Place) → used (more + 5) n here (program_scope.phrases n) ≡ plain.Tree.var (more + q) here) →
    Stands names program_scope t q (one y)
first_stands names are t y n q h word there number known stands =
    let number_is : number_of names y ≡ n = ap (λ l. number_of l y) are.begins ∙ sym (number are.later) in
    subst (λ u. Stands names program_scope u q (one y)) (sym ((bytes_eq-Decides t y).0 h)) (
      record { identifier = word; known = ap (λ l. has l y) are.begins ∙ there are.later },
      ap (λ m. is_none (program_scope.phrases m)) number_is ∙ known,
      λ more here. ap (λ m. used (more + 5) m here (program_scope.phrases m)) number_is ∙ stands more here,
    )

-- past the names of the prelude there is none
no_more_names : (n : ℕ) (t : Bytes) → has_name t (entry_at prelude (suc (suc (suc (suc (suc n)))))) ≡ true → ⊥
no_more_names n t h =
    let a = entry_later (one (codes "newintseq")) (one (codes "read") ∷ one (codes "putbool") ∷ one (codes "putchar") ∷ one (codes "putint") ∷ []) (suc (suc (suc (suc n)))) in
    let b = entry_later (one (codes "read")) (one (codes "putbool") ∷ one (codes "putchar") ∷ one (codes "putint") ∷ []) (suc (suc (suc n))) in
    let c = entry_later (one (codes "putbool")) (one (codes "putchar") ∷ one (codes "putint") ∷ []) (suc (suc n)) in
    let d = entry_later (one (codes "putchar")) (one (codes "putint") ∷ []) (suc n) in
    let e = entry_later (one (codes "putint")) [] n in
    false≢true (sym (ap (λ w. has_name t w) (a ∙ (b ∙ (c ∙ (d ∙ e))))) ∙ h)

prelude_stands : (names : List Bytes) (binders : List Binder) → AreNames names → (p : plain.Tree) → AllStand names binders prelude program_scope (λ n. n) p
prelude_stands names binders are p zero t h u =
    first_stands names are t (codes "newintseq") 11 0 h refl (λ l. refl) (λ l. refl) refl (λ more here. let e : more + 5 - 4 - 1 ≡ more + 0 = omega arith in ap (λ k. plain.Tree.var k here) e)
prelude_stands names binders are p (suc zero) t h u =
    first_stands names are t (codes "read") 4 1 h refl (λ l. refl) (λ l. refl) refl (λ more here. let e : more + 5 - 3 - 1 ≡ more + 1 = omega arith in ap (λ k. plain.Tree.var k here) e)
prelude_stands names binders are p (suc (suc zero)) t h u =
    first_stands names are t (codes "putbool") 3 2 h refl (λ l. refl) (λ l. refl) refl (λ more here. let e : more + 5 - 2 - 1 ≡ more + 2 = omega arith in ap (λ k. plain.Tree.var k here) e)
prelude_stands names binders are p (suc (suc (suc zero))) t h u =
    first_stands names are t (codes "putchar") 2 3 h refl (λ l. refl) (λ l. refl) refl (λ more here. let e : more + 5 - 1 - 1 ≡ more + 3 = omega arith in ap (λ k. plain.Tree.var k here) e)
prelude_stands names binders are p (suc (suc (suc (suc zero)))) t h u =
    first_stands names are t (codes "putint") 1 4 h refl (λ l. refl) (λ l. refl) refl (λ more here. let e : more + 5 - 0 - 1 ≡ more + 4 = omega arith in ap (λ k. plain.Tree.var k here) e)
prelude_stands names binders are p (suc (suc (suc (suc (suc n))))) t h u = absurd (no_more_names n t h)

pub phrases_read : PhrasesAreReadAgain
phrases_read names binders p are ids r =
    let k = plainly names binders in
    let text = text_of k prelude p in
    let shown = shows names binders (are, ids) prelude program_scope (λ n. n) refl p (prelude_stands names binders are p) r in
    let h = lower names program_scope (λ n. n) p text 0 (form k prelude p).0 (omega arith) shown.whole in
    let whole : Reads names text h.own = reads_same names (text ++ []) text _ _ (append-nil text) (append-nil h.own) (h.reads [] [] Follows.the_end (reads_end names)) in
    let m = whole first_place [] in
    let end : Token = record { kind = kind.End; place = m.end } in
    let all_kinds : kinds (m.us ++ end ∷ []) ≡ h.own ++ kind.End ∷ [] = kinds-append m.us (end ∷ []) ∙ ap (λ l. l ++ kind.End ∷ []) m.same in
    let x = h.taken (m.us ++ end ∷ []) (kind.End ∷ []) all_kinds in
    let o = peel x.rest kind.End [] x.left in
    record {
      tokens = m.us ++ end ∷ [];
      read = record { last = reading_of (record { rest = []; place = m.end }) names m.us; steps = m.steps; ended = refl; named = refl; read = refl };
      tree = x.tree;
      at = o.place;
      spelled =
          subst (λ l. SpellsBefore Level.phrase x.tree (m.us ++ end ∷ []) l)
          (o.is ∙ ap (λ l. token kind.End o.place ∷ l) (none_left o.rest o.left)) x.spells;
      expanded = x.means.1 program_scope (same_names program_scope);
      means = x.means.0;
    }
