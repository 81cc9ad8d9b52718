-- Places are equal by line and column.
use Rattle.std.proofs.Common.{◌≡◌, ℕ, ◌≤◌, ap₂, subst}
use Rattle.std.specs.Coded.{le_prop}
use Rattle.fy_base.specs.declared.data.Place.{Place}
use Rattle.fy_base.specs.Places.{place_at}

-- that they count from 1 has one proof only
same_numbers : (line col : ℕ) (p p' : 1 ≤ line) (q q' : 1 ≤ col) → place_at line col p q ≡ place_at line col p' q'
same_numbers line col p p' q q' = ap₂ (λ (u : 1 ≤ line) (v : 1 ≤ col). place_at line col u v) (le_prop p p') (le_prop q q')

same_line : (line col col' : ℕ) → col ≡ col' → (p p' : 1 ≤ line) (q : 1 ≤ col) (q' : 1 ≤ col') → place_at line col p q ≡ place_at line col' p' q'
same_line line col col' e =
    let P : ℕ → Type 0 = λ n. (p p' : 1 ≤ line) (q : 1 ≤ col) (q' : 1 ≤ n) → place_at line col p q ≡ place_at line n p' q' in
    subst P e (λ p p' q q'. same_numbers line col p p' q q')

pub place_at-equal : (line line' col col' : ℕ) → line ≡ line' → col ≡ col' → (p : 1 ≤ line) (p' : 1 ≤ line') (q : 1 ≤ col) (q' : 1 ≤ col') → place_at line col p q ≡ place_at line' col' p' q'
place_at-equal line line' col col' e f =
    let P : ℕ → Type 0 = λ n. (p : 1 ≤ line) (p' : 1 ≤ n) (q : 1 ≤ col) (q' : 1 ≤ col') → place_at line col p q ≡ place_at n col' p' q' in
    subst P e (same_line line col col' f)

-- two places in one line and column are the same
pub place-equal : (x y : Place) → x.line ≡ y.line → x.col ≡ y.col → x ≡ y
place-equal x y line col = place_at-equal x.line y.line x.col y.col line col x.line_from_one y.line_from_one x.col_from_one y.col_from_one
