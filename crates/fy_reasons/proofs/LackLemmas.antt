-- What a type lacks of another is found by halves.
use Rattle.std.proofs.Common.{ℕ, ◌+◌, ◌<◌, ◌≡◌, Bool, true, false, ◌&&◌, List, [], ◌∷◌, ◌++◌, map, cond, Option, Some, None, refl, sym, ap, ◌∙◌, arith}
use Rattle.std.specs.Prelude.{not, find}
use Rattle.std.specs.Option.{option_or}
use Rattle.std.specs.List.{list_all}
use Rattle.std.proofs.lemmas.List.{map-append}
use Rattle.std.proofs.lemmas.List.Folds.{list_all-append, list_all-map, find-append}
use Rattle.fy_types.specs.Types.{PlainType, PlainTypes, ns, atom, arrow, field, meet, no_types, and_type}
use Rattle.fy_types.specs.Paths.{PlainPath, PlainPaths, end, call, pick, no_paths, and_path, append, called, picked, paths, all_paths}
use Rattle.fy_derive.specs.declared.table.TypeTable.{TypeTable}
use Rattle.fy_derive.specs.Subsumption.{all_pass, some_below, is_below}
use Rattle.fy_derive.specs.Tables.{in_front, is_meet}
use Rattle.fy_derive.specs.Shown.{total, shown}
use Rattle.fy_reasons.specs.Expected.{singles, all_singles, lacking}
use Rattle.fy_reasons.specs.Stopping.{members_under, AreHalves}

and-assoc : (x y z : Bool) → (x && (y && z)) ≡ ((x && y) && z)
and-assoc true y z = refl
and-assoc false y z = refl

and-with-true : (b : Bool) → b ≡ (b && true)
and-with-true true = refl
and-with-true false = refl

all_pass-append : (f : PlainPath → Bool) (P Q : PlainPaths) → all_pass f (append P Q) ≡ (all_pass f P && all_pass f Q)
all_pass-append f no_paths Q = refl
all_pass-append f (and_path p P) Q = ap (λ b. f p && b) (all_pass-append f P Q) ∙ and-assoc (f p) (all_pass f P) (all_pass f Q)

all_pass-called : (f : PlainPath → Bool) (D P : PlainPaths) → all_pass f (called D P) ≡ all_pass (λ p. f (call D p)) P
all_pass-called f D no_paths = refl
all_pass-called f D (and_path p P) = ap (λ b. f (call D p) && b) (all_pass-called f D P)

all_pass-picked : (f : PlainPath → Bool) (i : ℕ) (P : PlainPaths) → all_pass f (picked i P) ≡ all_pass (λ p. f (pick i p)) P
all_pass-picked f i no_paths = refl
all_pass-picked f i (and_path p P) = ap (λ b. f (pick i p) && b) (all_pass-picked f i P)

list_all-same : (f g : PlainType → Bool) → ((C : PlainType) → f C ≡ g C) → (xs : List PlainType) → list_all f xs ≡ list_all g xs
list_all-same f g h [] = refl
list_all-same f g h (x ∷ xs) = ap (λ b. b && list_all f xs) (h x) ∙ ap (λ b. g x && b) (list_all-same f g h xs)

-- a type's paths are those of its single types
mutual
  singles-pass : (f : PlainPath → Bool) (B : PlainType) → all_pass f (paths B) ≡ list_all (λ C. all_pass f (paths C)) (singles B)
  singles-pass f ns = refl
  singles-pass f (atom a) = and-with-true (f (end a) && true)
  singles-pass f (arrow A B) =
      all_pass-called f (paths A) (paths B)
      ∙ (singles-pass (λ p. f (call (paths A) p)) B
      ∙ (list_all-same (λ C. all_pass (λ p. f (call (paths A) p)) (paths C)) (λ C. all_pass f (paths (arrow A C))) (λ C. sym (all_pass-called f (paths A) (paths C))) (singles B)
      ∙ sym (list_all-map (λ C. all_pass f (paths C)) (arrow A) (singles B))))
  singles-pass f (field i A) =
      all_pass-picked f i (paths A)
      ∙ (singles-pass (λ p. f (pick i p)) A
      ∙ (list_all-same (λ C. all_pass (λ p. f (pick i p)) (paths C)) (λ C. all_pass f (paths (field i C))) (λ C. sym (all_pass-picked f i (paths C))) (singles A)
      ∙ sym (list_all-map (λ C. all_pass f (paths C)) (field i) (singles A))))
  singles-pass f (meet As) = all_singles-pass f As

  all_singles-pass : (f : PlainPath → Bool) (As : PlainTypes) → all_pass f (all_paths As) ≡ list_all (λ C. all_pass f (paths C)) (all_singles As)
  all_singles-pass f no_types = refl
  all_singles-pass f (and_type A As) =
      let g : PlainType → Bool = λ C. all_pass f (paths C) in
      all_pass-append f (paths A) (all_paths As)
      ∙ (ap (λ b. b && all_pass f (all_paths As)) (singles-pass f A)
      ∙ (ap (λ b. list_all g (singles A) && b) (all_singles-pass f As) ∙ sym (list_all-append g (singles A) (all_singles As))))

pub below-singles : (A B : PlainType) → is_below A B ≡ list_all (λ C. is_below A C) (singles B)
below-singles A B = singles-pass (some_below (paths A)) B

none-step : (b c : Bool) (x : PlainType) (o : Option PlainType) → (b && c) ≡ true → (c ≡ true → o ≡ None) → cond (not b) (Some x) o ≡ None
none-step true c x o e h = h e
none-step false c x o e h = absurd cc

none-lacking : (g : PlainType → Bool) (xs : List PlainType) → list_all g xs ≡ true → find (λ C. not (g C)) xs ≡ None
none-lacking g [] e = refl
none-lacking g (x ∷ xs) e = none-step (g x) (list_all g xs) x (find (λ C. not (g C)) xs) e (λ f. none-lacking g xs f)

some-step : (b c : Bool) (x : PlainType) (o z : Option PlainType) → (b && c) ≡ false → (c ≡ false → option_or o z ≡ o) →
    option_or (cond (not b) (Some x) o) z ≡ cond (not b) (Some x) o
some-step true c x o z e h = h e
some-step false c x o z e h = refl

some-lacking : (g : PlainType → Bool) (xs : List PlainType) (z : Option PlainType) → list_all g xs ≡ false →
    option_or (find (λ C. not (g C)) xs) z ≡ find (λ C. not (g C)) xs
some-lacking g [] z e = absurd cc
some-lacking g (x ∷ xs) z e = some-step (g x) (list_all g xs) x (find (λ C. not (g C)) xs) z e (λ f. some-lacking g xs z f)

-- nothing is lacking of what a type is below
pub nothing-lacking : (A B : PlainType) → is_below A B ≡ true → lacking A B ≡ None
nothing-lacking A B h = none-lacking (λ C. is_below A C) (singles B) (sym (below-singles A B) ∙ h)

pub none-half : (A B : PlainType) → singles B ≡ [] → lacking A B ≡ None
none-half A B e = ap (find (λ C. not (is_below A C))) e

pub one-half : (A B : PlainType) → singles B ≡ B ∷ [] → is_below A B ≡ false → lacking A B ≡ Some B
one-half A B e h = ap (find (λ C. not (is_below A C))) e ∙ ap (λ b. cond (not b) (Some B) None) h

pub first-half : (A B X Y : PlainType) → singles B ≡ singles X ++ singles Y → is_below A X ≡ false → lacking A X ≡ lacking A B
first-half A B X Y e h =
    let f : PlainType → Bool = λ C. not (is_below A C) in
    sym (ap (find f) e ∙ (find-append f (singles X) (singles Y)
    ∙ some-lacking (λ C. is_below A C) (singles X) (find f (singles Y)) (sym (below-singles A X) ∙ h)))

pub second-half : (A B X Y : PlainType) → singles B ≡ singles X ++ singles Y → is_below A X ≡ true → lacking A Y ≡ lacking A B
second-half A B X Y e h =
    let f : PlainType → Bool = λ C. not (is_below A C) in
    sym (ap (find f) e ∙ (find-append f (singles X) (singles Y) ∙ ap (λ o. option_or o (find f (singles Y))) (nothing-lacking A X h)))

both-below : (A B X Y : PlainType) → singles B ≡ singles X ++ singles Y → is_below A B ≡ (is_below A X && is_below A Y)
both-below A B X Y e =
    let g : PlainType → Bool = λ C. is_below A C in
    below-singles A B
    ∙ (ap (list_all g) e
    ∙ (list_all-append g (singles X) (singles Y)
    ∙ (ap (λ b. b && list_all g (singles Y)) (sym (below-singles A X)) ∙ ap (λ b. is_below A X && b) (sym (below-singles A Y)))))

pub second-apart : (A B X Y : PlainType) → singles B ≡ singles X ++ singles Y → is_below A B ≡ false → is_below A X ≡ true → is_below A Y ≡ false
second-apart A B X Y e f h = sym (both-below A B X Y e ∙ ap (λ b. b && is_below A Y) h) ∙ f

-- the halves of what stands behind a call or a field
halves-behind : (f : PlainType → PlainType) → ((A : PlainType) → singles (f A) ≡ map f (singles A)) → ((A : PlainType) → members_under (f A) ≡ members_under A) →
    (t u : TypeTable) (N R : PlainType) (i j k m : ℕ) → N ≡ f R → AreHalves t R i j → k < total u → shown u k ≡ f (shown t i) → m < total u → shown u m ≡ f (shown t j) →
    AreHalves u N k m
halves-behind f hs hm t u N R i j k m e h ki ke mi me =
    let whole : members_under N ≡ members_under R = ap members_under e ∙ hm R in
    let one : members_under (shown u k) ≡ members_under (shown t i) = ap members_under ke ∙ hm (shown t i) in
    let two : members_under (shown u m) ≡ members_under (shown t j) = ap members_under me ∙ hm (shown t j) in
    let first : singles (shown u k) ≡ map f (singles (shown t i)) = ap singles ke ∙ hs (shown t i) in
    let second : singles (shown u m) ≡ map f (singles (shown t j)) = ap singles me ∙ hs (shown t j) in
    record {
      first_in = ki;
      second_in = mi;
      same =
          ap singles e
          ∙ (hs R
          ∙ (ap (map f) h.same
          ∙ (map-append f (singles (shown t i)) (singles (shown t j))
          ∙ (ap (λ xs. xs ++ map f (singles (shown t j))) (sym first) ∙ ap (λ ys. singles (shown u k) ++ ys) (sym second)))));
      first_fewer = omega (arith, whole, one, h.first_fewer);
      second_fewer = omega (arith, whole, two, h.second_fewer);
    }

pub arrow-halves : (t u : TypeTable) (N D R : PlainType) (i j k m : ℕ) → N ≡ arrow D R → AreHalves t R i j →
    k < total u → shown u k ≡ arrow D (shown t i) → m < total u → shown u m ≡ arrow D (shown t j) → AreHalves u N k m
arrow-halves t u N D R i j k m = halves-behind (arrow D) (λ A. refl) (λ A. refl) t u N R i j k m

pub field-halves : (t u : TypeTable) (N R : PlainType) (n i j k m : ℕ) → N ≡ field n R → AreHalves t R i j →
    k < total u → shown u k ≡ field n (shown t i) → m < total u → shown u m ≡ field n (shown t j) → AreHalves u N k m
field-halves t u N R n i j k m = halves-behind (field n) (λ A. refl) (λ A. refl) t u N R i j k m

in_front-singles : (A B : PlainType) → is_meet B ≡ true → singles (in_front A B) ≡ singles A ++ singles B
in_front-singles A (meet Bs) e = refl
in_front-singles A B e = absurd cc

in_front-members : (A B : PlainType) → is_meet B ≡ true → members_under (in_front A B) ≡ 1 + (members_under A + members_under B)
in_front-members A (meet Bs) e = refl
in_front-members A B e = absurd cc

-- a meet has its first member and the others as halves
pub meet-halves : (t : TypeTable) (N : PlainType) (i j : ℕ) → N ≡ in_front (shown t i) (shown t j) → is_meet (shown t j) ≡ true → i < total t → j < total t → AreHalves t N i j
meet-halves t N i j e h ki kj =
    let whole : members_under N ≡ 1 + (members_under (shown t i) + members_under (shown t j)) = ap members_under e ∙ in_front-members (shown t i) (shown t j) h in
    record {
      first_in = ki;
      second_in = kj;
      same = ap singles e ∙ in_front-singles (shown t i) (shown t j) h;
      first_fewer = omega (arith, whole);
      second_fewer = omega (arith, whole);
    }

pub ruleset lack_rules = (nothing-lacking, none-half, one-half, first-half, second-half, second-apart)
