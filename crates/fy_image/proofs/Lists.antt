-- Lists of numbers and places, and their bytes.
use Rattle.std.proofs.Common.{◌≡◌, ℕ, ◌*◌, ◌<◌, ◌≤◌, List, [], ◌∷◌, ◌++◌, length, length-append, take, drop, min, All, sym, ap, ◌∙◌, refl, arith}
use Rattle.std.specs.List.{flat_map}
use Rattle.std.proofs.lemmas.List.{take_min}
use Rattle.std.proofs.lemmas.List.Elements.{All-head, All-tail}
use Rattle.std.proofs.Math.Seq.{take-append_seam, drop-append_seam}
use Rattle.fy_base.specs.Outside.{Bytes}
use Rattle.fy_base.specs.declared.data.Place.{Place}
use Rattle.fy_image.specs.declared.version.Version.TheVariants.{One}
use Rattle.fy_image.specs.Form.{word, double, place_bytes}

-- items of one size have as many bytes
pub spelled_long : {X : Type 0} (spell : X → Bytes) (size : ℕ) → ((x : X) → length (spell x) ≡ size) → (items : List X) → length (flat_map spell items) ≡ size * length items
spelled_long spell size long [] = omega arith
spelled_long spell size long (x ∷ items) = omega (arith, length-append (spell x) (flat_map spell items), long x, spelled_long spell size long items)

-- items of four bytes that end before their number is reached are fewer bytes
pub fours_cut : {X : Type 0} (spell : X → Bytes) → ((x : X) → length (spell x) ≡ 4) → (items : List X) (count : ℕ) (all part : Bytes) → all ≡ flat_map spell items ++ part → length items < count → length part < 4 → length all < 4 * count
fours_cut spell long items count all part is few short = omega (arith, ap (λ b. length b) is, length-append (flat_map spell items) part, spelled_long spell 4 long items)

-- the same of eight bytes
pub eights_cut : {X : Type 0} (spell : X → Bytes) → ((x : X) → length (spell x) ≡ 8) → (items : List X) (count : ℕ) (all part : Bytes) → all ≡ flat_map spell items ++ part → length items < count → length part < 8 → length all < 8 * count
eights_cut spell long items count all part is few short = omega (arith, ap (λ b. length b) is, length-append (flat_map spell items) part, spelled_long spell 8 long items)

-- the bytes of so many words, doubles and places
pub words_long : (items : List ℕ) (count : ℕ) → length items ≡ count → length (flat_map word items) ≡ 4 * count
words_long items count same = omega (arith, spelled_long word 4 (λ x. refl) items)

pub doubles_long : (items : List ℕ) (count : ℕ) → length items ≡ count → length (flat_map double items) ≡ 8 * count
doubles_long items count same = omega (arith, spelled_long double 8 (λ x. refl) items)

pub places_long : (items : List Place) (count : ℕ) → length items ≡ count → length (flat_map (place_bytes One) items) ≡ 8 * count
places_long items count same = omega (arith, spelled_long (place_bytes One) 8 (λ x. refl) items)

-- items of so many bytes at most
pub spelled_short : {X : Type 0} (spell : X → Bytes) (size : ℕ) (P : X → Type 0) → ((x : X) → P x → length (spell x) ≤ size) → (items : List X) → All P items → length (flat_map spell items) ≤ size * length items
spelled_short spell size P short [] all = omega arith
spelled_short spell size P short (x ∷ items) all =
    omega (arith, length-append (spell x) (flat_map spell items), short x (All-head P x items all), spelled_short spell size P short items (All-tail P x items all))

-- fronts of one length
pub front_same : (a b c d : Bytes) → length a ≡ length b → a ++ c ≡ b ++ d → (a ≡ b) × (c ≡ d)
front_same a b c d long same = (
  sym (take-append_seam a c) ∙ ap (λ n. take n (a ++ c)) long ∙ ap (λ l. take (length b) l) same ∙ take-append_seam b d,
  sym (drop-append_seam a c) ∙ ap (λ n. drop n (a ++ c)) long ∙ ap (λ l. drop (length b) l) same ∙ drop-append_seam b d,
)

-- the first bytes, where there are so many
pub start_is : (bytes start : Bytes) (n : ℕ) → start ≡ take (min (length bytes) n) bytes → take n bytes ≡ start
start_is bytes start n is = let swapped : min n (length bytes) ≡ min (length bytes) n = omega arith in sym (take_min n bytes) ∙ ap (λ k. take k bytes) swapped ∙ sym is
