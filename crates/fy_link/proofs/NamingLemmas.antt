-- Pieces that name what they name, one after another, and faults among them.
use Rattle.std.proofs.Common.{List, [], ◌∷◌, ◌++◌, ap, ◌∙◌}
use Rattle.std.proofs.lemmas.List.{append_assoc}
use Rattle.fy_base.specs.declared.data.Place.{Place}
use Rattle.fy_front.specs.declared.refusal.Refusal.{Refusal}
use Rattle.fy_link.specs.Header.{PlainPiece}
use Rattle.fy_link.specs.Sources.{Named, Names, NameAll, IsTypeFault}

pub named-push : (at : Place) (xs : List PlainPiece) (named : List Named) (x : PlainPiece) (n : Named) →
    NameAll at xs named → Names at x n → NameAll at (xs ++ x ∷ []) (named ++ n ∷ [])
named-push at [] [] x n h k = (k, tt)
named-push at [] (m ∷ named) x n h k = absurd h
named-push at (y ∷ xs) [] x n h k = absurd h
named-push at (y ∷ xs) (m ∷ named) x n h k = (h.0, named-push at xs named x n h.1 k)

-- a fault among the first pieces is one among all
pub fault-more : (at : Place) (xs ys : List PlainPiece) (e : Refusal) → IsTypeFault at xs e → IsTypeFault at (xs ++ ys) e
fault-more at xs ys e f = record {
  before = f.before;
  x = f.x;
  behind = f.behind ++ ys;
  is = ap (λ zs. zs ++ ys) f.is ∙ append_assoc f.before (f.x ∷ f.behind) ys;
  known = f.known;
  named = f.named;
  why = f.why;
}
