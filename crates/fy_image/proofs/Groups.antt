-- Short numbers: what they are, and that they come back from their bytes.
use Rattle.std.proofs.Common.{◌≡◌, ℕ, zero, suc, ◌+◌, ◌-◌, ◌*◌, ◌/◌, ◌%◌, ◌^◌, ◌<◌, ◌≤◌, min, true, false, not, ◌&&◌, All, eqb, ltb, leb, List, [], ◌∷◌, ◌++◌, length, take, drop, get_or, map, length-append, append_assoc, sym, ap, ◌∙◌, refl, arith, subst, inl, inr}
use Rattle.std.proofs.lemmas.Bool.{leb-true, leb-false, ltb-true, eqb-false, le-leb, lt-leb, lt-ltb, ne_eqb, not-true, cases_lt, and_parts, and_from, not_from_false}
use Rattle.std.proofs.lemmas.List.{map_push, reverse-append, length-reverse, length-map, length-take, take_more, take_all, drop_more, get_or-take, get_or_append_left, get_or_push}
use Rattle.std.proofs.lemmas.List.Elements.{All-nil, All-cons, All-head, All-tail, All-take}
use Rattle.std.proofs.lemmas.List.Sums.{prefix_len_passes, prefix_len_stops, prefix_len_is}
use Rattle.std.proofs.lemmas.Int.Digits.{digits_of_step, first_digits_of, length-digits_of-le}
use Rattle.std.specs.Int.Digits.{digits_of}
use Rattle.std.specs.List.{prefix_len}
use Rattle.std.specs.Prelude.{reverse, slice_index}
use Rattle.fy_base.specs.Outside.{Bytes}
use Rattle.fy_image.specs.Form.{grouped_bytes, short}
use Rattle.fy_image.specs.Refusals.{is_marked, grouped, short_size, is_short}
use Rattle.fy_image.proofs.Lists.{front_same, start_is}

-- ---- the groups one by one

digits_low : (n : ℕ) → 0 < n → n < 128 → digits_of 128 n ≡ n ∷ []
digits_low n some low =
    let q : n / 128 ≡ 0 = omega arith in
    let r : n % 128 ≡ n = omega arith in
    digits_of_step 128 n (omega arith) some ∙ ap (λ k. digits_of 128 k ++ (n % 128 ∷ [])) q ∙ ap (λ k. k ∷ []) r

-- a number below 128 is its own byte
pub short_low : (n : ℕ) → 0 < n → n < 128 → short n ≡ n ∷ []
unfolding short
short_low n some low = ap grouped_bytes (digits_low n some low)

abbrev mark : ℕ → ℕ
mark digit = 128 + digit

marked_push : (digits : List ℕ) (digit : ℕ) → 0 < get_or digits 0 0 → grouped_bytes (digits ++ (digit ∷ [])) ≡ (128 + digit) ∷ grouped_bytes digits
marked_push [] digit some = absurd (omega arith)
marked_push (highest ∷ digits) digit some =
    ap (λ l. reverse (highest ∷ l)) (map_push mark digits digit) ∙ reverse-append (highest ∷ map mark digits) ((128 + digit) ∷ [])

-- the lowest group of another one stands first, with its top bit set
pub short_more : (n : ℕ) → 128 ≤ n → short n ≡ (128 + n % 128) ∷ short (n / 128)
unfolding short
short_more n high =
    let left : 0 < n / 128 = omega arith in
    ap grouped_bytes (digits_of_step 128 n (omega arith) (omega arith)) ∙ marked_push (digits_of 128 (n / 128)) (n % 128) (first_digits_of 128 (n / 128) (omega arith) left)

-- marked bytes, and a last one that is neither marked nor 0
pub record Shape (n : ℕ) : Type 0 where
  pub front : Bytes
  pub last : ℕ
  pub is : short n ≡ front ++ (last ∷ [])
  pub marked : All (λ byte. 128 ≤ byte) front
  pub some : 0 < last
  pub low : last < 128
  pub value : grouped (short n) ≡ n

shape_low : (n : ℕ) → 0 < n → n < 128 → Shape n
shape_low n some low =
    let is = short_low n some low in
    let whole : n % 128 + 128 * 0 ≡ n = omega arith in
    record { front = []; last = n; is = is; marked = All-nil (λ byte. 128 ≤ byte); some = some; low = low; value = ap grouped is ∙ whole }

shape_more : (n : ℕ) → 128 ≤ n → Shape (n / 128) → Shape n
shape_more n high rest =
    let is = short_more n high in
    let whole : (128 + n % 128) % 128 + 128 * (n / 128) ≡ n = omega arith in
    let marked : 128 ≤ 128 + n % 128 = omega arith in
    record {
      front = (128 + n % 128) ∷ rest.front;
      last = rest.last;
      is = is ∙ ap (λ l. (128 + n % 128) ∷ l) rest.is;
      marked = All-cons (λ byte. 128 ≤ byte) (128 + n % 128) rest.front marked rest.marked;
      some = rest.some;
      low = rest.low;
      value = ap grouped is ∙ ap (λ k. (128 + n % 128) % 128 + 128 * k) rest.value ∙ whole;
    }

shape_within : (fuel n : ℕ) → n ≤ fuel → 0 < n → Shape n
shape_within zero n within some = absurd (omega arith)
shape_within (suc fuel) n within some =
    elim (cases_lt n 128) [ inl low ↦ shape_low n some low | inr high ↦ shape_more n high (shape_within fuel (n / 128) (omega arith) (omega arith)) ]

pub shape : (n : ℕ) → 0 < n → Shape n
shape n some = shape_within n n (omega arith) some

-- ---- how large groups are

-- so many groups are below this
abbrev top : ℕ → ℕ
top zero = 1
top (suc k) = 128 * top k

below_top : (k : ℕ) (bytes : Bytes) → length bytes ≤ k → grouped bytes < top k
below_top zero [] few = omega arith
below_top zero (byte ∷ bytes) few = absurd (omega arith)
below_top (suc k) [] few = omega (arith, below_top k [] (omega arith))
below_top (suc k) (byte ∷ bytes) few = omega (arith, below_top k bytes (omega arith))

-- four groups have 28 bits, and five 35
pub four_groups : (bytes : Bytes) → length bytes ≤ 4 → grouped bytes < 268435456
four_groups bytes few = below_top 4 bytes few

pub five_groups : (bytes : Bytes) → length bytes ≤ 5 → grouped bytes < 34359738368
five_groups bytes few = below_top 5 bytes few

-- the groups from a place on
pub grouped_at : (bytes : Bytes) (k byte : ℕ) → k < length bytes → byte ≡ get_or bytes k 0 → grouped (drop k bytes) ≡ byte % 128 + 128 * grouped (drop (k + 1) bytes)
grouped_at bytes k byte within is = ap grouped (drop_more bytes k 0 within) ∙ ap (λ b. b % 128 + 128 * grouped (drop (k + 1) bytes)) (sym is)

-- ---- a short number among bytes

-- it has as many bytes as its digits
pub short_length : (n : ℕ) → n < 2 ^ 32 → length (short n) ≤ 5
unfolding short
short_length n fits = omega (arith, as_many (digits_of 128 n), length-digits_of-le 128 5 n (omega arith) (omega arith))
  where
    as_many : (digits : List ℕ) → length (grouped_bytes digits) ≡ length digits
    as_many [] = refl
    as_many (highest ∷ digits) = length-reverse (highest ∷ map mark digits) ∙ ap suc (length-map digits mark)

prefix_front : (k : ℕ) (front : Bytes) (last : ℕ) (rest : Bytes) → All (λ byte. 128 ≤ byte) front → last < 128 → length front ≤ k → prefix_len is_marked (take (suc k) (front ++ (last ∷ rest))) ≡ length front
prefix_front k [] last rest marked low few = let stops : leb 128 last ≡ false = lt-leb 128 last low in rw stops refl
prefix_front zero (byte ∷ front) last rest marked low few = absurd (omega arith)
prefix_front (suc k) (byte ∷ front) last rest marked low few =
    let goes : leb 128 byte ≡ true = le-leb 128 byte (All-head (λ b. 128 ≤ b) byte front marked) in
    let others = prefix_front k front last rest (All-tail (λ b. 128 ≤ b) byte front marked) low (omega arith) in
    rw goes (omega (arith, others))

-- where it begins bytes, its size there is its length
pub size_is : (n : ℕ) (rest : Bytes) → 0 < n → n < 2 ^ 32 → short_size (short n ++ rest) ≡ length (short n)
size_is n rest some fits =
    let s = shape n some in
    let long : length (short n) ≡ suc (length s.front) = ap length s.is ∙ length-append s.front (s.last ∷ []) ∙ omega arith in
    let few : length s.front ≤ 4 = omega (arith, short_length n fits) in
    ap (λ b. short_size (b ++ rest)) s.is
    ∙ ap short_size (append_assoc s.front (s.last ∷ []) rest)
    ∙ ap suc (prefix_front 4 s.front s.last rest s.marked s.low few)
    ∙ sym long

is_short_from : (bytes : Bytes) → length bytes ≤ 5 → 0 < slice_index bytes (length bytes - 1) → grouped bytes < 2 ^ 32 → is_short bytes ≡ true
is_short_from bytes few some fits =
    let a : leb (length bytes) 5 ≡ true = le-leb (length bytes) 5 few in
    let b : eqb (slice_index bytes (length bytes - 1)) 0 ≡ false = ne_eqb (slice_index bytes (length bytes - 1)) 0 (λ e. omega arith) in
    let c : ltb (grouped bytes) (2 ^ 32) ≡ true = lt-ltb (grouped bytes) (2 ^ 32) fits in
    and_from _ _ (and_from _ _ a (not_from_false _ b)) c

last_some : (front : Bytes) (last : ℕ) → 0 < last → 0 < slice_index (front ++ (last ∷ [])) (length (front ++ (last ∷ [])) - 1)
last_some front last some =
    let at : length front ≡ length (front ++ (last ∷ [])) - 1 = omega (arith, length-append front (last ∷ [])) in
    omega (arith, get_or_push front last 0 (length (front ++ (last ∷ [])) - 1) at)

-- a number of four bytes has a short form, and comes back from it
pub is_short_short : (n : ℕ) → 0 < n → n < 2 ^ 32 → is_short (short n) ≡ true
is_short_short n some fits =
    let s = shape n some in
    let P : Bytes → Type 0 = λ b. 0 < slice_index b (length b - 1) in
    is_short_from (short n) (short_length n fits) (subst P (sym s.is) (last_some s.front s.last s.some)) (omega (arith, s.value))

pub grouped_short : (n : ℕ) → 0 < n → grouped (short n) ≡ n
grouped_short n some = (shape n some).value

-- short numbers that begin the same bytes are the same
pub short_same : (m n : ℕ) (r s : Bytes) → 0 < m → 0 < n → m < 2 ^ 32 → n < 2 ^ 32 → short m ++ r ≡ short n ++ s → (m ≡ n) × (r ≡ s)
short_same m n r s m_some n_some m_fits n_fits same =
    let long : length (short m) ≡ length (short n) = sym (size_is m r m_some m_fits) ∙ ap short_size same ∙ size_is n s n_some n_fits in
    let both = front_same (short m) (short n) r s long same in
    (sym (grouped_short m m_some) ∙ ap grouped both.0 ∙ grouped_short n n_some, both.1)

-- ---- reading

-- marked bytes up to one that isn't, or up to the end of the first five
pub size_from : (bytes start : Bytes) (k : ℕ) → start ≡ take (min (length bytes) 5) bytes → k ≤ length start → ((i : ℕ) → i < k → leb 128 (get_or start i 0) ≡ true) → (k < length start → get_or start k 0 < 128) → k + 1 ≡ short_size bytes
size_from bytes start k is within marked stops =
    let same : take 5 bytes ≡ start = start_is bytes start 5 is in
    let size : prefix_len is_marked start ≡ k = prefix_len_is is_marked start k 0 within marked (λ below. lt-leb 128 (get_or start k 0) (stops below)) in
    omega (arith, size, ap (λ b. prefix_len is_marked b) same)

-- marked bytes and a last one are the short form of their number
pub back : (front : Bytes) (last : ℕ) → All (λ byte. 128 ≤ byte) front → All (λ byte. byte < 256) front → 0 < last → last < 128
    → (short (grouped (front ++ (last ∷ []))) ≡ front ++ (last ∷ [])) × (0 < grouped (front ++ (last ∷ [])))
back [] last marked bytes some low =
    let is : last % 128 + 128 * 0 ≡ last = omega arith in
    (ap short is ∙ short_low last some low, omega arith)
back (byte ∷ front) last marked bytes some low =
    let g = grouped (front ++ (last ∷ [])) in
    let others = back front last (All-tail (λ b. 128 ≤ b) byte front marked) (All-tail (λ b. b < 256) byte front bytes) some low in
    let least : 128 ≤ byte = All-head (λ b. 128 ≤ b) byte front marked in
    let most : byte < 256 = All-head (λ b. b < 256) byte front bytes in
    let left : 0 < g = others.1 in
    let high : 128 ≤ byte % 128 + 128 * g = omega arith in
    let group : 128 + (byte % 128 + 128 * g) % 128 ≡ byte = omega arith in
    let rest : (byte % 128 + 128 * g) / 128 ≡ g = omega arith in (
      short_more (byte % 128 + 128 * g) high ∙ ap (λ k. k ∷ short ((byte % 128 + 128 * g) / 128)) group ∙ ap (λ k. byte ∷ short k) rest ∙ ap (λ l. byte ∷ l) others.0,
      omega arith,
    )

-- what `is_short` says
pub record IsOne (bytes : Bytes) : Type 0 where
  pub few : length bytes ≤ 5
  pub some : 0 < slice_index bytes (length bytes - 1)
  pub fits : grouped bytes < 2 ^ 32

pub one_is : (bytes : Bytes) → is_short bytes ≡ true → IsOne bytes
one_is bytes is =
    let both = and_parts (leb (length bytes) 5 && not (eqb (slice_index bytes (length bytes - 1)) 0)) (ltb (grouped bytes) (2 ^ 32)) is in
    let two = and_parts (leb (length bytes) 5) (not (eqb (slice_index bytes (length bytes - 1)) 0)) both.0 in
    let some = eqb-false (slice_index bytes (length bytes - 1)) 0 (not-true (eqb (slice_index bytes (length bytes - 1)) 0) two.1) in
    record { few = leb-true (length bytes) 5 two.0; some = omega arith; fits = ltb-true (grouped bytes) (2 ^ 32) both.1 }

-- the bytes that were taken as a short number are that of their number
pub part_back : (all part rest : Bytes) → all ≡ part ++ rest → length part ≡ short_size all → is_short part ≡ true → All (λ byte. byte < 256) part → (short (grouped part) ≡ part) × (0 < grouped part)
part_back all part rest is long short_is bytes =
    let one = one_is part short_is in
    let m = prefix_len is_marked (take 5 all) in
    let few : m < 5 = omega (arith, one.few) in
    let within : m < length part = omega arith in
    let front = take m part in
    let last = get_or part m 0 in
    let front_long : length front ≡ m = length-take m part ∙ omega arith in
    let split : part ≡ front ++ (last ∷ []) = sym (take_all (m + 1) part (omega arith)) ∙ take_more part m 0 within in
    let here : (k d : ℕ) → k ≤ m → get_or part k d ≡ get_or (take 5 all) k d =
    λ k d below. sym (get_or_append_left part rest d k (omega arith)) ∙ ap (λ b. get_or b k d) (sym is) ∙ sym (get_or-take 5 all k d (omega arith)) in
    let marked : All (λ byte. 128 ≤ byte) front =
    λ k d below. let least = leb-true 128 (get_or (take 5 all) k d) (prefix_len_passes is_marked (take 5 all) k d (omega arith)) in omega (arith, least, get_or-take m part k d (omega arith), here k d (omega arith)) in
    let whole : length all ≡ length part + length rest = ap length is ∙ length-append part rest in
    let there : m < length (take 5 all) = omega (arith, length-take 5 all) in
    let low : last < 128 = let stops = leb-false 128 (get_or (take 5 all) m 0) (prefix_len_stops is_marked (take 5 all) 0 there) in omega (arith, stops, here m 0 (omega arith)) in
    let at : length part - 1 ≡ m = omega arith in
    let some : 0 < last = let P : ℕ → Type 0 = λ k. 0 < get_or part k 0 in subst P at one.some in
    let P : Bytes → Type 0 = λ b. (short (grouped b) ≡ b) × (0 < grouped b) in
    subst P (sym split) (back front last marked (All-take (λ byte. byte < 256) m part bytes) some low)
