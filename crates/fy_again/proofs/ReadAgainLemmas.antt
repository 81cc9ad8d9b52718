-- Texts of phrases are read again, form by form.
use Rattle.std.proofs.Common.{◌≡◌, ◌≢◌, ℕ, suc, Bool, true, false, ◌||◌, List, [], ◌∷◌, ◌++◌, codes, refl, sym, subst, arith, append_assoc, append-nil, inl, inr}
use Rattle.std.proofs.lemmas.Bool.{false≢true, cases_Bool}
use Rattle.fy_base.specs.Outside.{Bytes}
use Rattle.fy_base.specs.declared.data.Place.{Place}
use Rattle.fy_types.specs.Names.{AreNames, number_of}
use Rattle.fy_types.specs.Types.{PlainType}
use Rattle.fy_lexer.specs.Identifiers.{AreIdentifiers}
use Rattle.fy_lexer.specs.declared.token.Symbol.TheVariants as symbol
use Rattle.fy_syntax.specs.Print.{prefix_text}
use Rattle.fy_syntax.specs.Signs.{Level}
use Rattle.fy_phrase.specs.Tree as plain
use Rattle.fy_phrase.specs.Alike.{lifted}
use Rattle.fy_expand.specs.Scope.{Scope, behind, under, under_members}
use Rattle.fy_expand.specs.Types.{predefined}
use Rattle.fy_short.specs.ShortTypes.{short_type, alternatives_text}
use Rattle.fy_show.specs.declared.binders.Binder.{Binder}
use Rattle.fy_show.specs.declared.binders.BinderForm.TheVariants as binder_form
use Rattle.fy_show.specs.declared.manner.Manner.TheVariants.{Whole}
use Rattle.fy_show.specs.Binders.{source_name}
use Rattle.fy_show.specs.Entries.{Fields, Entry, one, all, entry_at, is_field_name}
use Rattle.fy_show.specs.Fresh.{fresh, is_taken, record_at, uses, any_uses, fields_of, fields_behind}
use Rattle.fy_show.specs.Texts.{part, is_halved, is_empty_string, is_sequence, form, called, parts_text, definitions, declared_text, defined_name}
use Rattle.fy_show.proofs.BoundLemmas.{none-captured}
use Rattle.fy_again.specs.Phrases.{plainly, AreDeclared, IsAmong, IsReadable, IsCall, AreReadable, AreDefinitions}
use Rattle.fy_again.proofs.BinderLemmas.{shows_lam, shows_let, shows_new, shows_accept}
use Rattle.fy_again.proofs.CallLemmas.{indexed_is, shows_empty, shows_call}
use Rattle.fy_again.proofs.FormLemmas.{shows_unary, shows_merge, shows_definition}
use Rattle.fy_again.proofs.LetrecLemmas.{ShowsDecls, shows_decl, shows_decls, ShowsDefs, shows_def, shows_defs, shows_letrec, plain_decls}
use Rattle.fy_again.proofs.LevelLemmas.{ShownPhrase, part_shown}
use Rattle.fy_again.proofs.PartLemmas.{at_level, other_level, literal_shown, variable_shown, selected_shown, binary_shown, merge_shown, sequence_shown, types_shown}
use Rattle.fy_again.proofs.PhraseLemmas.{IsShown, shown_there, ShowsPhrase, shows_skip, shows_loop, shows_while, shows_cond, shows_app, shows_assign, shows_escape}
use Rattle.fy_again.proofs.RecordLemmas.{AreShown, kept_shown, AreSame, all-same, defined_kept, stand_members, stand_behind}
use Rattle.fy_again.proofs.SequenceLemmas.{ShowsMany, shows_one, shows_both, comma}
use Rattle.fy_again.proofs.ShortLemmas.{shows_short}
use Rattle.fy_again.proofs.StandingLemmas.{alone, AllStand, or_left, or_right, stand_under}

-- a list of distinct identifiers that begins with the first names
abbrev pub IsNameList : List Bytes → Type 0
IsNameList names = AreNames names × AreIdentifiers names

-- what is used by one part
one_used : (a : Bool) → (a || false) ≡ false → a ≡ false
one_used true h = h
one_used false h = refl

first_used : (a b : Bool) → (a || (b || false)) ≡ false → a ≡ false
first_used true b h = h
first_used false b h = refl

second_used : (a b : Bool) → (a || (b || false)) ≡ false → b ≡ false
second_used true b h = absurd (false≢true (sym h))
second_used false true h = h
second_used false false h = refl

neither : (a b : Bool) → (a || b) ≡ false → (a ≡ false) × (b ≡ false)
neither true b h = absurd (false≢true (sym h))
neither false b h = (refl, h)

-- `let x == p in q`
let_shown : (names : List Bytes) (binders : List Binder) (s : List Entry) (x : Scope) (v : ℕ → ℕ) (d : ℕ) (p b : plain.Tree) (at : Place) (y : Bytes) → IsShown names y →
    ShownPhrase names x v p (form (plainly names binders) s p) → ShownPhrase names (under (number_of names y) x) (lifted v) b (form (plainly names binders) (one y ∷ s) b) →
    ShownPhrase names x v (plain.Tree.let_in d p b at)
    (3, λ m. (codes "let " ++ y ++ codes " == " ++ part m 3 (form (plainly names binders) s p)) ++ codes " in " ++ part m 3 (form (plainly names binders) (one y ∷ s) b))
let_shown names binders s x v d p b at y is h g =
    let k = plainly names binders in
    at_level names x v (plain.Tree.let_in d p b at)
    (3, λ m. (codes "let " ++ y ++ codes " == " ++ part m 3 (form k s p)) ++ codes " in " ++ part m 3 (form k (one y ∷ s) b)) (other_level 3 refl)
    (shows_let names x v d p b at y (part Whole 3 (form k s p)) (part Whole 3 (form k (one y ∷ s) b)) is (part_shown names x v p (form k s p) 3 (omega arith) h)
    (part_shown names (under (number_of names y) x) (lifted v) b (form k (one y ∷ s) b) 3 (omega arith) g))

-- the declarations of a `letrec`
declared_shown : (names : List Bytes) (binders : List Binder) → IsNameList names → (fs : Fields) (gs more : List (ℕ × PlainType)) → AreShown names fs → AreSame fs gs →
    ((i : ℕ) → IsAmong i more → IsAmong i gs) → more ≢ [] → AreDeclared names more → ShowsDecls names more (declared_text (plainly names binders) fs [] more)
declared_shown names binders are fs gs [] kept same sub some h = absurd (some refl)
declared_shown names binders are fs gs ((i, A) ∷ []) kept same sub some h =
    let x = defined_kept names fs gs kept same i (sub i (inl refl)) in
    let n = defined_name fs i in
    subst (λ t. ShowsDecls names ((i, A) ∷ []) t) (sym (append-nil ((n ++ codes ": ") ++ short_type names A)))
    (shows_decl names i A n (short_type names A) h.0.2 x.shown x.number (shows_short names are.0 A h.0.0 h.0.1))
declared_shown names binders are fs gs ((i, A) ∷ g ∷ more) kept same sub some h =
    let x = defined_kept names fs gs kept same i (sub i (inl refl)) in
    shows_decls names i A (g ∷ more) (defined_name fs i) (short_type names A) (declared_text (plainly names binders) fs [] (g ∷ more)) h.0.2 x.shown x.number
    (shows_short names are.0 A h.0.0 h.0.1) (declared_shown names binders are fs gs (g ∷ more) kept same (λ j among. sub j (inr among)) (λ e. cc) h.1)

mutual
  pub shows : (names : List Bytes) (binders : List Binder) → IsNameList names → (s : List Entry) (x : Scope) (v : ℕ → ℕ) → x.types ≡ predefined → (p : plain.Tree) → AllStand names binders s x v p →
      IsReadable (plainly names binders) s p → ShownPhrase names x v p (form (plainly names binders) s p)
  shows names binders are s x v types (plain.Tree.var n at) good r = variable_shown names binders s x v n at good (entry_at s n) refl r
  shows names binders are s x v types (plain.Tree.lit d at) good r = literal_shown names x v d at r
  shows names binders are s x v types (plain.Tree.unary o p at) good r =
      let k = plainly names binders in
      at_level names x v (plain.Tree.unary o p at) (9, λ m. prefix_text o ++ part m 9 (form k s p)) (other_level 9 refl)
      (shows_unary names x v o p at (part Whole 9 (form k s p)) (part_shown names x v p (form k s p) 9 (omega arith) (shows names binders are s x v types p good r)))
  shows names binders are s x v types (plain.Tree.binary o p q at) good r =
      let k = plainly names binders in
      binary_shown names x v o p q at (form k s p) (form k s q) (shows names binders are s x v types p (λ j t h u. good j t h (or_left _ _ u)) r.0)
      (shows names binders are s x v types q (λ j t h u. good j t h (or_right _ _ u)) r.1)
  shows names binders are s x v types (plain.Tree.cond b p q at) good r =
      let k = plainly names binders in
      at_level names x v (plain.Tree.cond b p q at) (form k s (plain.Tree.cond b p q at)) (other_level 3 refl)
      (shows_cond names x v b p q at (part Whole 3 (form k s b)) (part Whole 3 (form k s p)) (part Whole 3 (form k s q))
      (part_shown names x v b (form k s b) 3 (omega arith) (shows names binders are s x v types b (λ j t h u. good j t h (or_left _ _ u)) r.0))
      (part_shown names x v p (form k s p) 3 (omega arith) (shows names binders are s x v types p (λ j t h u. good j t h (or_right _ _ (or_left _ _ u))) r.1))
      (part_shown names x v q (form k s q) 3 (omega arith) (shows names binders are s x v types q (λ j t h u. good j t h (or_right _ _ (or_right _ _ u))) r.2)))
  shows names binders are s x v types (plain.Tree.case e parts at) good r = absurd r
  shows names binders are s x v types (plain.Tree.lam d As b at) good r =
      let k = plainly names binders in
      let p = plain.Tree.lam d As b at in
      let y = fresh (is_taken k s (b ∷ []) []) (source_name names binders binder_form.Lam at d) in
      let inner =
      shows names binders are (one y ∷ s) (under (number_of names y) x) (lifted v) types b
      (stand_under names binders s x v p b y (shown_there names y are.1 r.0.0) (λ t h. one_used _ (none-captured k s p t r.0.1 h)) (λ j t u. u) good) r.2 in
      at_level names x v p (form k s p) (other_level 3 refl)
      (shows_lam names x v d As b at y (alternatives_text names [] As) (part Whole 3 (form k (one y ∷ s) b)) (shown_there names y are.1 r.0.0) types r.1.4 (types_shown names are.0 As r.1.0 r.1.1 r.1.2 r.1.3)
      (part_shown names (under (number_of names y) x) (lifted v) b (form k (one y ∷ s) b) 3 (omega arith) inner))
  shows names binders are s x v types (plain.Tree.app p q at) good r =
      let k = plainly names binders in
      at_level names x v (plain.Tree.app p q at) (form k s (plain.Tree.app p q at)) (other_level 10 refl)
      (shows_app names x v p q at (part Whole 10 (form k s p)) (part Whole 11 (form k s q))
      (part_shown names x v p (form k s p) 10 (omega arith) (shows names binders are s x v types p (λ j t h u. good j t h (or_left _ _ u)) r.0))
      (part_shown names x v q (form k s q) 11 (omega arith) (shows names binders are s x v types q (λ j t h u. good j t h (or_right _ _ u)) r.1)))
  shows names binders are s x v types (plain.Tree.field i p at) good r =
      let k = plainly names binders in
      at_level names x v (plain.Tree.field i p at) (form k s (plain.Tree.field i p at)) (other_level 3 refl)
      (shows_definition names x v p i at (part Whole 3 (form k s p)) r.0 (part_shown names x v p (form k s p) 3 (omega arith) (shows names binders are s x v types p good r.1)))
  shows names binders are s x v types (plain.Tree.sel p i at) good r =
      selected_shown names binders s x v p i at good (λ here h. shows names binders are s x v types p here h) (record_at (plainly names binders) s p) refl r
  shows names binders are s x v types (plain.Tree.merge p q at) good r =
      let k = plainly names binders in
      merge_shown names x v k s p q at (λ e h. shows_called names binders are s x v types p q at good e h)
      (λ h.
      shows_merge names x v p q at (part Whole 1 (form k s p)) (part Whole 2 (form k s q)) h.2
      (part_shown names x v p (form k s p) 1 (omega arith) (shows names binders are s x v types p (λ j t e u. good j t e (or_left _ _ u)) h.0))
      (part_shown names x v q (form k s q) 2 (omega arith) (shows names binders are s x v types q (λ j t e u. good j t e (or_right _ _ u)) h.1)))
      (is_sequence p q) refl r
  shows names binders are s x v types (plain.Tree.let_in d (plain.Tree.rec c T p here) b at) good r =
      let k = plainly names binders in
      let w = plain.Tree.let_in d (plain.Tree.rec c T p here) b at in
      let gs = fields_of T in
      let fs = fields_behind k s (p ∷ b ∷ []) [] gs in
      let same = all-same k s (p ∷ b ∷ []) gs in
      let kept = kept_shown names are.1 fs r.0.0 in
      let y = under_members (plain_decls gs) x in
      let captured = λ (t : Bytes) (h : is_field_name t fs ≡ true). none-captured k s w t r.0.1 h in
      let defs =
      shows_definitions names binders are (all fs ∷ s) y (lifted v) types fs gs kept same p
      (stand_members names binders s x v w p fs gs kept same (λ t h. first_used _ _ (captured t h)) (λ j t u. or_left _ _ u) good) r.3 in
      let inner =
      shows names binders are (all fs ∷ s) y (lifted v) types b
      (stand_members names binders s x v w b fs gs kept same (λ t h. second_used _ _ (captured t h)) (λ j t u. or_right _ _ u) good) r.4 in
      at_level names x v w (form k s w) (other_level 3 refl)
      (shows_letrec names x v d c gs T p b at here (declared_text k fs [] gs) (definitions k (all fs ∷ s) fs Whole p) (part Whole 3 (form k (all fs ∷ s) b)) types r.1.1 r.1.3 r.2
      (declared_shown names binders are fs gs gs kept same (λ i among. among) r.1.0 r.1.2) defs (part_shown names y (lifted v) b (form k (all fs ∷ s) b) 3 (omega arith) inner))
  shows names binders are s x v types (plain.Tree.let_in d p b at) good r =
      let k = plainly names binders in
      let y = fresh (is_taken k s (b ∷ []) []) (source_name names binders binder_form.Let at d) in
      let_shown names binders s x v d p b at y (shown_there names y are.1 r.0.0) (shows names binders are s x v types p (λ j t h u. good j t h (or_left _ _ u)) r.1)
      (shows names binders are (one y ∷ s) (under (number_of names y) x) (lifted v) types b
      (stand_under names binders s x v (plain.Tree.let_in d p b at) b y (shown_there names y are.1 r.0.0) (λ t h. one_used _ (none-captured k s (plain.Tree.let_in d p b at) t r.0.1 h))
      (λ j t u. or_right (uses k t (alone j (entry_at s j)) p) (uses k t (alone (suc j) (entry_at s j)) b) u) good) r.2)
  shows names binders are s x v types (plain.Tree.rec d T b at) good r = absurd r
  shows names binders are s x v types (plain.Tree.skip at) good r =
      at_level names x v (plain.Tree.skip at) (12, λ m. codes "skip") (other_level 12 refl) (shows_skip names x v at)
  shows names binders are s x v types (plain.Tree.seq p q at) good r =
      sequence_shown names x v (plainly names binders) s p q at r.0 (shows names binders are s x v types p (λ j t h u. good j t h (or_left _ _ u)) r.1)
      (shows names binders are s x v types q (λ j t h u. good j t h (or_right _ _ u)) r.2) (is_halved (plain.Tree.seq p q at)) refl
  shows names binders are s x v types (plain.Tree.assign p q at) good r =
      let k = plainly names binders in
      at_level names x v (plain.Tree.assign p q at) (form k s (plain.Tree.assign p q at)) (other_level 3 refl)
      (shows_assign names x v p q at (part Whole 4 (form k s p)) (part Whole 3 (form k s q))
      (part_shown names x v p (form k s p) 4 (omega arith) (shows names binders are s x v types p (λ j t h u. good j t h (or_left _ _ u)) r.0))
      (part_shown names x v q (form k s q) 3 (omega arith) (shows names binders are s x v types q (λ j t h u. good j t h (or_right _ _ u)) r.1)))
  shows names binders are s x v types (plain.Tree.while_do b c at) good r =
      let k = plainly names binders in
      at_level names x v (plain.Tree.while_do b c at) (form k s (plain.Tree.while_do b c at)) (other_level 3 refl)
      (shows_while names x v b c at (part Whole 3 (form k s b)) (part Whole 3 (form k s c))
      (part_shown names x v b (form k s b) 3 (omega arith) (shows names binders are s x v types b (λ j t h u. good j t h (or_left _ _ u)) r.0))
      (part_shown names x v c (form k s c) 3 (omega arith) (shows names binders are s x v types c (λ j t h u. good j t h (or_right _ _ u)) r.1)))
  shows names binders are s x v types (plain.Tree.forever c at) good r =
      let k = plainly names binders in
      at_level names x v (plain.Tree.forever c at) (form k s (plain.Tree.forever c at)) (other_level 3 refl)
      (shows_loop names x v c at (part Whole 3 (form k s c)) (part_shown names x v c (form k s c) 3 (omega arith) (shows names binders are s x v types c good r)))
  shows names binders are s x v types (plain.Tree.new d D e b at) good r =
      let k = plainly names binders in
      let p = plain.Tree.new d D e b at in
      let y = fresh (is_taken k s (b ∷ []) []) (source_name names binders binder_form.New at d) in
      let inner =
      shows names binders are (one y ∷ s) (under (number_of names y) x) (lifted v) types b
      (stand_under names binders s x v p b y (shown_there names y are.1 r.0.0) (λ t h. one_used _ (none-captured k s p t r.0.1 h)) (λ j t u. or_right _ _ u) good) r.2 in
      at_level names x v p (form k s p) (other_level 3 refl)
      (shows_new names x v d D e b at y (part Whole 3 (form k s e)) (part Whole 3 (form k (one y ∷ s) b)) (shown_there names y are.1 r.0.0)
      (part_shown names x v e (form k s e) 3 (omega arith) (shows names binders are s x v types e (λ j t h u. good j t h (or_left _ _ u)) r.1))
      (part_shown names (under (number_of names y) x) (lifted v) b (form k (one y ∷ s) b) 3 (omega arith) inner))
  shows names binders are s x v types (plain.Tree.cells d e b at) good r = absurd r
  shows names binders are s x v types (plain.Tree.escape d b at) good r =
      let k = plainly names binders in
      let p = plain.Tree.escape d b at in
      let y = fresh (is_taken k s (b ∷ []) []) (source_name names binders binder_form.Escape at d) in
      let inner =
      shows names binders are (one y ∷ s) (under (number_of names y) x) (lifted v) types b
      (stand_under names binders s x v p b y (shown_there names y are.1 r.0.0) (λ t h. one_used _ (none-captured k s p t r.0.1 h)) (λ j t u. u) good) r.1 in
      at_level names x v p (form k s p) (other_level 3 refl)
      (shows_escape names x v d b at y (part Whole 3 (form k (one y ∷ s) b)) (shown_there names y are.1 r.0.0)
      (part_shown names (under (number_of names y) x) (lifted v) b (form k (one y ∷ s) b) 3 (omega arith) inner))
  shows names binders are s x v types (plain.Tree.accept d D b at) good r =
      let k = plainly names binders in
      let p = plain.Tree.accept d D b at in
      let y = fresh (is_taken k s (b ∷ []) []) (source_name names binders binder_form.Accept at d) in
      let inner =
      shows names binders are (one y ∷ s) (under (number_of names y) x) (lifted v) types b
      (stand_under names binders s x v p b y (shown_there names y are.1 r.0.0) (λ t h. one_used _ (none-captured k s p t r.0.1 h)) (λ j t u. u) good) r.1 in
      at_level names x v p (form k s p) (other_level 3 refl)
      (shows_accept names x v d D b at y (part Whole 3 (form k (one y ∷ s) b)) (shown_there names y are.1 r.0.0)
      (part_shown names (under (number_of names y) x) (lifted v) b (form k (one y ∷ s) b) 3 (omega arith) inner))
  shows names binders are s x v types (plain.Tree.put kind p at) good r = absurd r
  shows names binders are s x v types (plain.Tree.read p at) good r = absurd r
  shows names binders are s x v types (plain.Tree.mark m at) good r = absurd r

  -- a merge that is a sequence
  shows_called : (names : List Bytes) (binders : List Binder) → IsNameList names → (s : List Entry) (x : Scope) (v : ℕ → ℕ) → x.types ≡ predefined → (p q : plain.Tree) (at : Place) →
      AllStand names binders s x v (plain.Tree.merge p q at) → is_sequence p q ≡ true → IsCall (plainly names binders) s p →
      ShowsPhrase names x v Level.primary (plain.Tree.merge p q at) (called (plainly names binders) s Whole p)
  shows_called names binders are s x v types (plain.Tree.lam d As (plain.Tree.case e parts a) c) q at good h (inl empty) =
      shows_empty names x v d As e parts a c q at (parts_text (plainly names binders) (one (codes "n") ∷ s) Whole [] parts) (indexed_is d As e parts a c q h) empty
  shows_called names binders are s x v types (plain.Tree.lam d As (plain.Tree.case e parts a) c) q at good h (inr r) =
      let k = plainly names binders in
      let inside = parts_text k (one (codes "n") ∷ s) Whole [] parts in
      let whole = plain.Tree.merge (plain.Tree.lam d As (plain.Tree.case e parts a) c) q at in
      let x_is = indexed_is d As e parts a c q h in
      let many = shows_all names binders are s x v types whole good parts r.0 r.1 (λ j t u. or_left _ _ (or_right _ _ u)) r.2 in
      elim (cases_Bool (is_empty_string parts)) [
        | inl i ↦ shows_empty names x v d As e parts a c q at inside x_is i
        | inr i ↦ shows_call names x v k (one (codes "n") ∷ s) d As e parts a c q at inside x_is i r.0 r.2 many
      ]
  shows_called names binders are s x v types p q at good h r = absurd r

  -- the parts of a sequence
  shows_all : (names : List Bytes) (binders : List Binder) → IsNameList names → (s : List Entry) (x : Scope) (v : ℕ → ℕ) → x.types ≡ predefined → (w : plain.Tree) → AllStand names binders s x v w →
      (parts : plain.Trees) → parts ≢ plain.Trees.no_trees → any_uses (plainly names binders) (codes "n") (one (codes "n") ∷ []) parts ≡ false →
      ((j : ℕ) (t : Bytes) → any_uses (plainly names binders) t (alone (suc j) (entry_at s j)) parts ≡ true → uses (plainly names binders) t (alone j (entry_at s j)) w ≡ true) →
      AreReadable (plainly names binders) (one (codes "n") ∷ s) parts →
      ShowsMany symbol.Comma names (behind x) (lifted v) parts (parts_text (plainly names binders) (one (codes "n") ∷ s) Whole [] parts)
  shows_all names binders are s x v types w good plain.Trees.no_trees some none up r = absurd (some refl)
  shows_all names binders are s x v types w good (plain.Trees.and_tree p plain.Trees.no_trees) some none up r =
      let k = plainly names binders in
      let q = form k (one (codes "n") ∷ s) p in
      let inner =
      shows names binders are (one (codes "n") ∷ s) (behind x) (lifted v) types p
      (stand_behind names binders s x v w p (codes "n") (one_used _ none) (λ j t u. up j t (or_left _ _ u)) good) r.0 in
      subst (λ t. ShowsMany symbol.Comma names (behind x) (lifted v) (plain.Trees.and_tree p plain.Trees.no_trees) t) (sym (append-nil (part Whole 3 q)))
      (shows_one symbol.Comma names (behind x) (lifted v) p (part Whole 3 q) (part_shown names (behind x) (lifted v) p q 3 (omega arith) inner))
  shows_all names binders are s x v types w good (plain.Trees.and_tree p (plain.Trees.and_tree b more)) some none up r =
      let k = plainly names binders in
      let q = form k (one (codes "n") ∷ s) p in
      let n = codes "n" in
      let two = parts_text k (one (codes "n") ∷ s) Whole [] (plain.Trees.and_tree b more) in
      let inner =
      shows names binders are (one n ∷ s) (behind x) (lifted v) types p
      (stand_behind names binders s x v w p n (neither (uses k n (one n ∷ []) p) (any_uses k n (one n ∷ []) (plain.Trees.and_tree b more)) none).0 (λ j t u. up j t (or_left _ _ u)) good) r.0 in
      let later =
      shows_all names binders are s x v types w good (plain.Trees.and_tree b more) (λ e. cc)
      (neither (uses k n (one n ∷ []) p) (any_uses k n (one n ∷ []) (plain.Trees.and_tree b more)) none).1 (λ j t u. up j t (or_right _ _ u)) r.1 in
      subst (λ t. ShowsMany symbol.Comma names (behind x) (lifted v) (plain.Trees.and_tree p (plain.Trees.and_tree b more)) t) (append_assoc (part Whole 3 q) (codes ", ") two)
      (shows_both symbol.Comma 44 comma names (behind x) (lifted v) (plain.Trees.and_tree p plain.Trees.no_trees) (plain.Trees.and_tree b more) (part Whole 3 q) two
      (shows_one symbol.Comma names (behind x) (lifted v) p (part Whole 3 q) (part_shown names (behind x) (lifted v) p q 3 (omega arith) inner)) later)

  -- the definitions of a `letrec`
  shows_definitions : (names : List Bytes) (binders : List Binder) → IsNameList names → (s : List Entry) (x : Scope) (v : ℕ → ℕ) → x.types ≡ predefined → (fs : Fields) (gs : List (ℕ × PlainType)) →
      AreShown names fs → AreSame fs gs → (p : plain.Tree) → AllStand names binders s x v p → AreDefinitions (plainly names binders) s gs p →
      ShowsDefs names x v p (definitions (plainly names binders) s fs Whole p)
  shows_definitions names binders are s x v types fs gs kept same (plain.Tree.merge p (plain.Tree.field i q at) here) good r =
      let k = plainly names binders in
      let d = defined_kept names fs gs kept same i r.1 in
      shows_defs names x v p i q at here (definitions k s fs Whole p) (defined_name fs i) (part Whole 3 (form k s q)) d.shown d.number
      (shows_definitions names binders are s x v types fs gs kept same p (λ j t h u. good j t h (or_left _ _ u)) r.0)
      (part_shown names x v q (form k s q) 3 (omega arith) (shows names binders are s x v types q (λ j t h u. good j t h (or_right _ _ u)) r.2))
  shows_definitions names binders are s x v types fs gs kept same (plain.Tree.field i q at) good r =
      let k = plainly names binders in
      let d = defined_kept names fs gs kept same i r.0 in
      shows_def names x v i q at (defined_name fs i) (part Whole 3 (form k s q)) d.shown d.number
      (part_shown names x v q (form k s q) 3 (omega arith) (shows names binders are s x v types q good r.1))
  shows_definitions names binders are s x v types fs gs kept same p good r = absurd r
