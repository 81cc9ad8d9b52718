-- What is told with and without a second cause.
use Rattle.std.proofs.Common.{ℕ, ◌≡◌, Bool, true, false, ◌++◌, Option, Some, None, is_none, option_map, codes, sym, ap, ◌∙◌}
use Rattle.std.specs.Prelude.{OnOk, Result}
use Rattle.std.proofs.lemmas.List.{append-nil}
use Rattle.fy_base.specs.Outside.{Bytes}
use Rattle.fy_phrase.specs.Tree.{Tree}
use Rattle.fy_show.specs.Entries.{Known, Scope}
use Rattle.fy_causes.specs.Causes.{Cause}
use Rattle.fy_causes.specs.Hollow.{Explained}
use Rattle.fy_causes.specs.declared.told.Second.{Second as KnownSecond}
use Rattle.fy_causes.specs.declared.told.Told.{Told as KnownTold}
use Rattle.fy_causes.specs.Readings.{explained_read, second_read, told_read}
use Rattle.fy_why.specs.Texts.{block, lines, phrase_lines, second_text, why_text}
use Rattle.fy_why.proofs.LineLemmas.{put-text}

pub why-none : (w : ℕ) (k : Known) (t : KnownTold) → t.second ≡ None → block w k true (codes "  ") (explained_read t.first) ≡ why_text w k (Some (told_read t))
why-none w k t e =
    sym (ap (λ (s : Option KnownSecond). block w k (is_none (option_map second_read s)) (codes "  ") (explained_read t.first) ++ second_text w k (option_map second_read s)) e
    ∙ append-nil (block w k true (codes "  ") (explained_read t.first)))

pub why-some : (w : ℕ) (k : Known) (t : KnownTold) (s : KnownSecond) → t.second ≡ Some s →
    block w k false (codes "  ") (explained_read t.first) ++ second_text w k (Some (second_read s)) ≡ why_text w k (Some (told_read t))
why-some w k t s e =
    sym (ap (λ (x : Option KnownSecond). block w k (is_none (option_map second_read x)) (codes "  ") (explained_read t.first) ++ second_text w k (option_map second_read x)) e)

-- a phrase, and what is blamed, told in another view
pub phrase-moved : (V T : Bytes) (w : ℕ) (lead : Bytes) (C : Cause) (k l : Known) (x y : Scope × Tree) → V ≡ T ++ lines lead (phrase_lines w l C x) → l ≡ k → x ≡ y → V ≡ T ++ lines lead (phrase_lines w k C y)
phrase-moved V T w lead C k l x y v e f =
    v ∙ (ap (λ (m : Known). T ++ lines lead (phrase_lines w m C x)) e ∙ ap (λ (z : Scope × Tree). T ++ lines lead (phrase_lines w k C z)) f)

pub phrase-put : {X E : Type 0} (r : Result X E) (V T : Bytes) (w : ℕ) (lead : Bytes) (C : Cause) (k l : Known) (x y : Scope × Tree) → OnOk r (V ≡ T ++ lines lead (phrase_lines w l C x)) → l ≡ k → x ≡ y →
    OnOk r (V ≡ T ++ lines lead (phrase_lines w k C y))
phrase-put r V T w lead C k l x y o e f =
    put-text r V T (lines lead (phrase_lines w l C x)) (lines lead (phrase_lines w k C y)) o
    (ap (λ (m : Known). lines lead (phrase_lines w m C x)) e ∙ ap (λ (z : Scope × Tree). lines lead (phrase_lines w k C z)) f)

pub block-put : {X E : Type 0} (r : Result X E) (V T : Bytes) (w : ℕ) (k l : Known) (names : Bool) (lead : Bytes) (e : Explained) → OnOk r (V ≡ T ++ block w l names lead e) → l ≡ k → OnOk r (V ≡ T ++ block w k names lead e)
block-put r V T w k l names lead e o m = put-text r V T (block w l names lead e) (block w k names lead e) o (ap (λ (x : Known). block w x names lead e) m)
