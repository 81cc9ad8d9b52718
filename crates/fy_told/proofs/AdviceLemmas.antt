-- What is advised, by the numbers of a table.
use Rattle.std.proofs.Common.{ℕ, ◌≡◌, ◌≢◌, List, [], ◌∷◌, length, get_or, None, refl, ap, ◌∙◌, arith}
use Rattle.fy_types.specs.Types.{PlainType}
use Rattle.fy_derive.specs.declared.table.TypeTable.{TypeTable}
use Rattle.fy_derive.specs.Shown.{shown, all_shown, Extends}
use Rattle.fy_derive.proofs.RuleLemmas.{type_at-shown}
use Rattle.fy_derive.proofs.Standings.{AreIn-kept, all_shown-kept}
use Rattle.fy_reasons.specs.declared.expected.Asking.{Asking}
use Rattle.fy_reasons.specs.declared.expected.Asking.TheVariants.{Anything, OneOf, AnArrow, AField}
use Rattle.fy_reasons.specs.Expected.{Asked, one_of, advised}
use Rattle.fy_reasons.specs.Stopping.{asking_read, IsAskingIn}
use Rattle.fy_reasons.proofs.AskLemmas.{type_at-past}
use Rattle.fy_show.specs.Entries.{Known}
use Rattle.fy_told.specs.ReasonTexts.{advice_text, not_below_line}

-- what is asked stays so as the table grows
pub asking-kept : (t u : TypeTable) (a : Asking) → Extends t u → IsAskingIn t a → asking_read u a ≡ asking_read t a
asking-kept t u Anything e h = refl
asking-kept t u (OneOf ks) e h = ap one_of (all_shown-kept ks.items e h)
asking-kept t u AnArrow e h = refl
asking-kept t u (AField i) e h = refl

pub asking-in : (t u : TypeTable) (a : Asking) → Extends t u → IsAskingIn t a → IsAskingIn u a
asking-in t u Anything e h = tt
asking-in t u (OneOf ks) e h = AreIn-kept e h
asking-in t u AnArrow e h = tt
asking-in t u (AField i) e h = tt

-- of one type why it isn't above, and of others nothing
pub one-unadvised : (k : Known) (n : ℕ) (A : PlainType) (t : TypeTable) (ks : List ℕ) → length ks ≡ 1 →
    not_below_line k A (shown t (get_or ks 0 0)) ≡ advice_text k n (one_of (all_shown t ks)) A None
one-unadvised k n A t [] h = absurd (omega arith)
one-unadvised k n A t (x ∷ []) h = refl
one-unadvised k n A t (x ∷ y ∷ ks) h = absurd (omega arith)

pub others-unadvised : (k : Known) (n : ℕ) (A : PlainType) (t : TypeTable) (ks : List ℕ) → length ks ≢ 1 → advice_text k n (one_of (all_shown t ks)) A None ≡ []
others-unadvised k n A t [] h = refl
others-unadvised k n A t (x ∷ []) h = absurd (h refl)
others-unadvised k n A t (x ∷ y ∷ ks) h = refl

pub advice-same : (k : Known) (n : ℕ) (a b : Asked) (A B C D : PlainType) → a ≡ b → A ≡ B → C ≡ D → advice_text k n a A (advised a A C) ≡ advice_text k n b B (advised b B D)
advice-same k n a b A B C D e f g =
    ap (λ x. advice_text k n x A (advised x A C)) e
    ∙ (ap (λ X. advice_text k n b X (advised b X C)) f
    ∙ ap (λ X. advice_text k n b B (advised b B X)) g)

pub ruleset advice_rules = (type_at-shown, type_at-past, asking-kept, asking-in, one-unadvised, others-unadvised)
