-- Forms that have more types than `ns` where their parts have.
use Rattle.std.proofs.Common.{◌≡◌, Bool, true, false, List, ◌∷◌, Option, Some, None, refl, ◌∙◌}
use Rattle.std.specs.Prelude.{is_none}
use Rattle.fy_types.specs.Types.{no_types, and_type}
use Rattle.fy_types.specs.Paths.{PlainPaths, append, called, paths}
use Rattle.fy_phrase.specs.Tree.{Tree, lit, lam, field, merge, let_in, skip}
use Rattle.fy_derive.specs.Clear.{has_none}
use Rattle.fy_derive.specs.Kinds.{Kind, kind_of}
use Rattle.fy_derive.specs.Least.{alternatives_of, least_type, merge_of, others}
use Rattle.fy_causes.specs.Occurrences.{Variable, Occurrence, forms_around, least_in, least_of, parts_of}
use Rattle.fy_causes.specs.Facts.{AreFull, and_full, may_be_blamed}
use Rattle.fy_causes.proofs.EmptyLemmas.{none-called, none-picked, none-once, some-left, some-right}

pub first-full : {o : Occurrence} {os : List Occurrence} → AreFull (o ∷ os) → has_none (least_of o) ≡ false
first-full (and_full h r) = h

pub rest-full : {o : Occurrence} {os : List Occurrence} → AreFull (o ∷ os) → AreFull os
rest-full (and_full h r) = r

clash : (b c : Bool) → b ≡ true → b ≡ false → c ≡ true
clash true c e f = absurd (cc)
clash false c e f = absurd (cc)

merged : (o : Option Kind) (P Q : PlainPaths) → has_none Q ≡ false → has_none (merge_of o P Q) ≡ true → is_none o ≡ true
merged None P Q f e = refl
merged (Some k) P Q f e =
    clash (has_none (merge_of (Some k) P Q)) false e (none-once (append (others k P) Q) ∙ some-right (others k P) Q f)

pub forms-blamed : (G : List Variable) (p : Tree) → AreFull (parts_of G p) → has_none (least_in G p) ≡ true → may_be_blamed p ≡ true
forms-blamed G (lit v at) f e = absurd (cc)
forms-blamed G (lam d no_types b at) f e = refl
forms-blamed G (lam d (and_type A As) b at) f e =
    let body : PlainPaths → PlainPaths = λ D. least_type (D ∷ forms_around G) b in
    let calls = called (paths A) (body (paths A)) in
    clash (has_none (least_in G (lam d (and_type A As) b at))) false e
    (none-once (append calls (alternatives_of As body))
    ∙ some-left calls (alternatives_of As body) (none-called (paths A) (body (paths A)) ∙ first-full f))
forms-blamed G (field i p at) f e =
    clash (has_none (least_in G (field i p at))) false e (none-picked i (least_in G p) ∙ first-full f)
forms-blamed G (merge p q at) f e = merged (kind_of q) (least_in G p) (least_in G q) (first-full (rest-full f)) e
forms-blamed G (let_in d p b at) f e = clash (has_none (least_in G (let_in d p b at))) false e (first-full (rest-full f))
forms-blamed G (skip at) f e = absurd (cc)
forms-blamed G p f e = refl
