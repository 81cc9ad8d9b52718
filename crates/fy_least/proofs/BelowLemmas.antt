-- What the parts of a least type keep of the order of paths.
use Rattle.std.proofs.Common.{ℕ, zero, suc, List, [], ◌∷◌, map, ◌≡◌, Bool, true, false, not, ◌&&◌, ◌||◌, eqb, if◌then◌else◌, Option, option_map, Some, None, slice_get, refl, sym, ap, ◌∙◌, subst, eqb-true, eq-eqb}
use Rattle.std.proofs.lemmas.Bool.{and_from, or_left, or_right}
use Rattle.std.proofs.lemmas.Option.{slice_get-map, get_or_from_slice_get}
use Rattle.fy_base.specs.declared.data.BinOp.{BinOp}
use Rattle.fy_types.specs.declared.types.Atom.{Atom}
use Rattle.fy_types.specs.declared.types.Atom.TheVariants.{Int, Bool as Truth, Char, Comm, Compl, IntAcc, BoolAcc, CharAcc}
use Rattle.fy_types.specs.Types.{PlainType, PlainTypes, no_types, and_type}
use Rattle.fy_types.specs.Subtyping.{IsMember, first, later}
use Rattle.fy_types.specs.Paths.{PlainPath, PlainPaths, end, call, pick, no_paths, and_path, called, picked, paths}
use Rattle.fy_types.specs.PathOrder.{same_end, compl_below, IsPathBelow, ends, calls, picks, ArePathsBelow, none_left, and_above, HasBelow, here, there}
use Rattle.fy_types.specs.Once.{once}
use Rattle.fy_types.specs.Bounds.{meet_of, join_of}
use Rattle.fy_types.proofs.Order.{paths-widened, IsPathBelow-refl, ArePathsBelow-refl, ArePathsBelow-trans}
use Rattle.fy_types.proofs.Laws.{HasBelow-left, HasBelow-right, append-left, append-right, append-greatest, called-below}
use Rattle.fy_types.proofs.OnceLemmas.{both_true, once-below, below-once}
use Rattle.fy_types.proofs.BoundLemmas.{meet_of-left, meet_of-right, meet_of-greatest, join_of-left, join_of-right, join_of-least}
use Rattle.fy_phrase.specs.declared.phrase.DataTy.{DataTy}
use Rattle.fy_phrase.specs.declared.phrase.DataTy.TheVariants as data_type
use Rattle.fy_derive.specs.Atoms.{data_atom, acceptor_atom, takes, is_command}
use Rattle.fy_derive.specs.Kinds.{Kind, of_call, of_field, of_assignment, begins, none_begins}
use Rattle.fy_derive.specs.Subsumption.{some_below, paths_below}
use Rattle.fy_derive.specs.Least.{forms_of, paths_at, one_end, if_passed, has, some_data, has_operands, has_assignment, command_of, alternatives_of, rest_of_call, rests_of_call, rest_of_field, rests_of_field, others, merge_of}
use Rattle.fy_derive.proofs.SubsumptionLemmas.{or_cases, some_below-sound, ArePathsBelow-le, paths_below-iff}
use Rattle.fy_least.specs.Pairs.{AreContextsBelow, no_variables, and_variable}

pub passed-mono : (b c : Bool) {P Q : PlainPaths} → (c ≡ true → b ≡ true) → ArePathsBelow P Q → ArePathsBelow (if_passed b P) (if_passed c Q)
passed-mono true true f low = low
passed-mono false true f low = let e = f refl in absurd (cc)
passed-mono true false f low = none_left
passed-mono false false f low = none_left

pub passed-below : (b : Bool) {P Q : PlainPaths} → b ≡ true → ArePathsBelow P Q → ArePathsBelow (if_passed b P) Q
passed-below true e low = low
passed-below false e low = absurd (cc)

passed-above : (b : Bool) {P Q : PlainPaths} → (b ≡ true → ArePathsBelow P Q) → ArePathsBelow P (if_passed b Q)
passed-above true f = f refl
passed-above false f = none_left

passed-some : (b : Bool) {P : PlainPaths} {q : PlainPath} → b ≡ true → HasBelow P q → HasBelow (if_passed b P) q
passed-some true e some = some
passed-some false e some = absurd (cc)

-- a list is below an end exactly where it has the end's atom
pub has-below : (P : PlainPaths) (a : Atom) → has P a ≡ true → ArePathsBelow P (one_end a)
has-below P a e = and_above (some_below-sound P (end a) e) none_left

pub below-has : {P : PlainPaths} {a : Atom} → ArePathsBelow P (one_end a) → has P a ≡ true
below-has {P = P} {a = a} low = (both_true (some_below P (end a)) true (ArePathsBelow-le low)).0

pub has-down : (P Q : PlainPaths) (a : Atom) → ArePathsBelow P Q → has Q a ≡ true → has P a ≡ true
has-down P Q a low e = below-has (ArePathsBelow-trans Q low (has-below Q a e))

pub test-below : (P Q : PlainPaths) → paths_below P Q ≡ true → ArePathsBelow P Q
test-below P Q e = (paths_below-iff P Q).0 e

pub below-test : (P Q : PlainPaths) → ArePathsBelow P Q → paths_below P Q ≡ true
below-test P Q low = (paths_below-iff P Q).1 low

pub test-down : (P P' Q : PlainPaths) → ArePathsBelow P P' → paths_below P' Q ≡ true → paths_below P Q ≡ true
test-down P P' Q low e = below-test P Q (ArePathsBelow-trans P' low (test-below P' Q e))

weaken : (p : PlainPath) {P Q : PlainPaths} → ArePathsBelow P Q → ArePathsBelow (and_path p P) Q
weaken p low = paths-widened (λ r some. there some) low

pub more-below : (p : PlainPath) (P : PlainPaths) → ArePathsBelow (and_path p P) P
more-below p P = weaken p (ArePathsBelow-refl P)

-- keeping each path once changes nothing in the order
pub once-mono : (P Q : PlainPaths) → ArePathsBelow P Q → ArePathsBelow (once P) (once Q)
once-mono P Q low = ArePathsBelow-trans P (once-below P) (ArePathsBelow-trans Q low (below-once Q))

pub once-low : (P : PlainPaths) {Q : PlainPaths} → ArePathsBelow P Q → ArePathsBelow (once P) Q
once-low P low = ArePathsBelow-trans P (once-below P) low

pub join_of-mono : (P P' Q Q' : PlainPaths) → ArePathsBelow P P' → ArePathsBelow Q Q' → ArePathsBelow (join_of P Q) (join_of P' Q')
join_of-mono P P' Q Q' low next =
    join_of-least P Q (ArePathsBelow-trans P' low (join_of-left P' Q')) (ArePathsBelow-trans Q' next (join_of-right P' Q'))

pub AreContextsBelow-refl : (G : List PlainPaths) → AreContextsBelow G G
AreContextsBelow-refl [] = no_variables
AreContextsBelow-refl (P ∷ G) = and_variable (ArePathsBelow-refl P) (AreContextsBelow-refl G)

pub at-mono : (k : ℕ) {G H : List PlainPaths} → AreContextsBelow G H → ArePathsBelow (paths_at G k) (paths_at H k)
at-mono k no_variables = none_left
at-mono zero (and_variable low rest) = low
at-mono (suc k) (and_variable low rest) = at-mono k rest

pub at-known : (G : List PlainType) (k : ℕ) (A : PlainType) → slice_get G k ≡ Some A → paths_at (forms_of G) k ≡ paths A
at-known G k A e = get_or_from_slice_get (map paths G) k (paths A) no_paths (slice_get-map paths G k ∙ ap (option_map paths) e)

pub at-cases : (G : List PlainType) (k : ℕ) (C : PlainPaths → Type 0) → ((A : PlainType) → slice_get G k ≡ Some A → C (paths A)) → C no_paths →
    C (paths_at (forms_of G) k)
at-cases [] k C f none = none
at-cases (A ∷ G) zero C f none = f A refl
at-cases (A ∷ G) (suc k) C f none = at-cases G k C f none

-- what a merge keeps of its left operand
begins-end : (k : Kind) → begins k (end Compl) ≡ begins k (end Comm)
begins-end of_call = refl
begins-end (of_field i) = refl
begins-end of_assignment = refl

begins-call : (k : Kind) (D E : PlainPaths) (p q : PlainPath) → begins k (call D p) ≡ begins k (call E q)
begins-call of_call D E p q = refl
begins-call (of_field i) D E p q = refl
begins-call of_assignment D E p q = refl

begins-pick : (k : Kind) (i : ℕ) (p q : PlainPath) → begins k (pick i p) ≡ begins k (pick i q)
begins-pick of_call i p q = refl
begins-pick (of_field j) i p q = refl
begins-pick of_assignment i p q = refl

begins-same : (k : Kind) {p q : PlainPath} → IsPathBelow p q → begins k p ≡ begins k q
begins-same k (ends same_end) = refl
begins-same k (ends compl_below) = begins-end k
begins-same k (calls {D = D} {E = E} {p = p} {q = q} wide low) = begins-call k D E p q
begins-same k (picks {i = i} {p = p} {q = q} low) = begins-pick k i p q

not-true : (b : Bool) → not b ≡ true → b ≡ false
not-true true e = absurd (cc)
not-true false e = refl

kept-some : (b : Bool) (p : PlainPath) {q : PlainPath} {P : PlainPaths} → HasBelow P q → HasBelow (if b then P else and_path p P) q
kept-some true p some = some
kept-some false p some = there some

kept-here : (b : Bool) {p q : PlainPath} (P : PlainPaths) → b ≡ false → IsPathBelow p q → HasBelow (if b then P else and_path p P) q
kept-here true P e low = absurd (cc)
kept-here false P e low = here low

others-some : (k : Kind) {P : PlainPaths} {q : PlainPath} → begins k q ≡ false → HasBelow P q → HasBelow (others k P) q
others-some k e (here {p = p} {P = P} low) = kept-here (begins k p) (others k P) (begins-same k low ∙ e) low
others-some k e (there {p = p} some) = kept-some (begins k p) p (others-some k e some)

pub others-below : (k : Kind) {P Q : PlainPaths} → none_begins k Q ≡ true → ArePathsBelow P Q → ArePathsBelow (others k P) Q
others-below k e none_left = none_left
others-below k e (and_above {Q = Q} {q = q} some rest) =
    let both = both_true (not (begins k q)) (none_begins k Q) e in
    and_above (others-some k (not-true (begins k q) both.0) some) (others-below k both.1 rest)

clear-kept : (k : Kind) (p : PlainPath) (P : PlainPaths) (b : Bool) → begins k p ≡ b → none_begins k P ≡ true →
    none_begins k (if b then P else and_path p P) ≡ true
clear-kept k p P true e clear = clear
clear-kept k p P false e clear = rw e clear

pub others-clear : (k : Kind) (P : PlainPaths) → none_begins k (others k P) ≡ true
others-clear k no_paths = refl
others-clear k (and_path p P) = clear-kept k p (others k P) (begins k p) refl (others-clear k P)

above-kept : (p : PlainPath) (P R : PlainPaths) (b : Bool) → ArePathsBelow P R → ArePathsBelow (and_path p P) (if b then R else and_path p R)
above-kept p P R true low = weaken p low
above-kept p P R false low = and_above (here (IsPathBelow-refl p)) (weaken p low)

pub others-above : (k : Kind) (P : PlainPaths) → ArePathsBelow P (others k P)
others-above k no_paths = none_left
others-above k (and_path p P) = above-kept p P (others k P) (begins k p) (others-above k P)

others-mono : (k : Kind) (P Q : PlainPaths) → ArePathsBelow P Q → ArePathsBelow (others k P) (others k Q)
others-mono k P Q low = others-below k (others-clear k Q) (ArePathsBelow-trans Q low (others-above k Q))

pub merge_of-mono : (o : Option Kind) (P P' Q Q' : PlainPaths) → ArePathsBelow P P' → ArePathsBelow Q Q' →
    ArePathsBelow (merge_of o P Q) (merge_of o P' Q')
merge_of-mono None P P' Q Q' low next = none_left
merge_of-mono (Some k) P P' Q Q' low next =
    meet_of-greatest (meet_of (others k P) Q) (others k P') Q'
    (ArePathsBelow-trans (others k P) (meet_of-left (others k P) Q) (others-mono k P P' low))
    (ArePathsBelow-trans Q (meet_of-right (others k P) Q) next)

-- the rests after a call and after a field
rests-some : {P Q D : PlainPaths} {r : PlainPath} → HasBelow P (call D r) → ArePathsBelow Q D → HasBelow (rests_of_call Q P) r
rests-some {Q = Q} {D = D} (here {P = P} (calls {D = E} wide low)) fits =
    HasBelow-left (rests_of_call Q P) (passed-some (paths_below Q E) (below-test Q E (ArePathsBelow-trans D fits wide)) (here low))
rests-some {Q = Q} (there {p = p} some) fits = HasBelow-right (rest_of_call Q p) (rests-some some fits)

pub rests-below : (D C : PlainPaths) {P Q : PlainPaths} → ArePathsBelow P (called D C) → ArePathsBelow Q D → ArePathsBelow (rests_of_call Q P) C
rests-below D no_paths low fits = none_left
rests-below D (and_path r C) (and_above some rest) fits = and_above (rests-some some fits) (rests-below D C rest fits)

rest-below : (p : PlainPath) {P Q : PlainPaths} (Q' : PlainPaths) → HasBelow P p → ArePathsBelow Q Q' →
    ArePathsBelow (rests_of_call Q P) (rest_of_call Q' p)
rest-below (call D r) {Q = Q} Q' some low =
    passed-above (paths_below Q' D) (λ e. and_above (rests-some some (ArePathsBelow-trans Q' low (test-below Q' D e))) none_left)
rest-below (pick i r) Q' some low = none_left
rest-below (end a) Q' some low = none_left

pub rests-mono : (P' Q' : PlainPaths) {P Q : PlainPaths} → ArePathsBelow P P' → ArePathsBelow Q Q' →
    ArePathsBelow (rests_of_call Q P) (rests_of_call Q' P')
rests-mono no_paths Q' low next = none_left
rests-mono (and_path p P') Q' (and_above some rest) next = append-greatest (rest-below p Q' some next) (rests-mono P' Q' rest next)

fields-some : (i : ℕ) {P : PlainPaths} {r : PlainPath} → HasBelow P (pick i r) → HasBelow (rests_of_field i P) r
fields-some i (here {P = P} (picks low)) = HasBelow-left (rests_of_field i P) (passed-some (eqb i i) (eq-eqb i i refl) (here low))
fields-some i (there {p = p} some) = HasBelow-right (rest_of_field i p) (fields-some i some)

pub fields-below : (i : ℕ) (C : PlainPaths) {P : PlainPaths} → ArePathsBelow P (picked i C) → ArePathsBelow (rests_of_field i P) C
fields-below i no_paths low = none_left
fields-below i (and_path r C) (and_above some rest) = and_above (fields-some i some) (fields-below i C rest)

field-below : (i : ℕ) (p : PlainPath) {P : PlainPaths} → HasBelow P p → ArePathsBelow (rests_of_field i P) (rest_of_field i p)
field-below i (pick j r) {P = P} some =
    passed-above (eqb i j) (λ e. and_above (fields-some i (subst (λ x. HasBelow P (pick x r)) (sym (eqb-true i j e)) some)) none_left)
field-below i (call D r) some = none_left
field-below i (end a) some = none_left

pub fields-mono : (i : ℕ) (P' : PlainPaths) {P : PlainPaths} → ArePathsBelow P P' → ArePathsBelow (rests_of_field i P) (rests_of_field i P')
fields-mono i no_paths low = none_left
fields-mono i (and_path p P') (and_above some rest) = append-greatest (field-below i p some) (fields-mono i P' rest)

-- the alternatives of an abstraction
pub alternatives-mono : (As : PlainTypes) (f g : PlainPaths → PlainPaths) → ((D : PlainPaths) → ArePathsBelow (f D) (g D)) →
    ArePathsBelow (alternatives_of As f) (alternatives_of As g)
alternatives-mono no_types f g low = none_left
alternatives-mono (and_type A As) f g low =
    let one = called (paths A) (f (paths A)) in
    append-greatest
    (ArePathsBelow-trans one (append-left one (alternatives_of As f)) (called-below (ArePathsBelow-refl (paths A)) (low (paths A))))
    (ArePathsBelow-trans (alternatives_of As f) (append-right one (alternatives_of As f)) (alternatives-mono As f g low))

pub alternatives-below : {As : PlainTypes} {A : PlainType} (f : PlainPaths → PlainPaths) {C : PlainPaths} → IsMember As A →
    ArePathsBelow (f (paths A)) C →
    ArePathsBelow (alternatives_of As f) (called (paths A) C)
alternatives-below f (first {A = A} {As = As}) low =
    ArePathsBelow-trans (called (paths A) (f (paths A))) (append-left (called (paths A) (f (paths A))) (alternatives_of As f))
    (called-below (ArePathsBelow-refl (paths A)) low)
alternatives-below f (later {B = B} {As = As} among) low =
    ArePathsBelow-trans (alternatives_of As f) (append-right (called (paths B) (f (paths B))) (alternatives_of As f)) (alternatives-below f among low)

-- tests of data types
pub data-intro : (f : DataTy → Bool) (D : DataTy) → f D ≡ true → some_data f ≡ true
data-intro f data_type.Int e = or_left _ _ e
data-intro f data_type.Bool e = or_right _ _ (or_left _ _ e)
data-intro f data_type.Char e = or_right _ _ (or_right _ _ e)

pub data-cases : {C : Type 0} (f : DataTy → Bool) → some_data f ≡ true → ((D : DataTy) → f D ≡ true → C) → C
data-cases f e g =
    or_cases (f data_type.Int) (f data_type.Bool || f data_type.Char) e (g data_type.Int)
    (λ h. or_cases (f data_type.Bool) (f data_type.Char) h (g data_type.Bool) (g data_type.Char))

data-mono : (f g : DataTy → Bool) → ((D : DataTy) → f D ≡ true → g D ≡ true) → some_data f ≡ true → some_data g ≡ true
data-mono f g h e = data-cases f e (λ D t. data-intro g D (h D t))

pub operands-mono : (op : BinOp) (P P' Q Q' : PlainPaths) → ArePathsBelow P P' → ArePathsBelow Q Q' →
    some_data (has_operands op P' Q') ≡ true → some_data (has_operands op P Q) ≡ true
operands-mono op P P' Q Q' low next =
    data-mono (has_operands op P' Q') (has_operands op P Q)
    (λ D e. let both = both_true (takes op D) (has P' (data_atom D) && has Q' (data_atom D)) e in
    let each = both_true (has P' (data_atom D)) (has Q' (data_atom D)) both.1 in
    and_from _ _ both.0 (and_from _ _ (has-down P P' (data_atom D) low each.0) (has-down Q Q' (data_atom D) next each.1)))

pub assignment-mono : (P P' Q Q' : PlainPaths) → ArePathsBelow P P' → ArePathsBelow Q Q' →
    some_data (has_assignment P' Q') ≡ true → some_data (has_assignment P Q) ≡ true
assignment-mono P P' Q Q' low next =
    data-mono (has_assignment P' Q') (has_assignment P Q)
    (λ D e. let each = both_true (has P' (acceptor_atom D)) (has Q' (data_atom D)) e in
    and_from _ _ (has-down P P' (acceptor_atom D) low each.0) (has-down Q Q' (data_atom D) next each.1))

pub both-mono : (P P' Q Q' : PlainPaths) (a b : Atom) → ArePathsBelow P P' → ArePathsBelow Q Q' →
    has P' a && has Q' b ≡ true → has P a && has Q b ≡ true
both-mono P P' Q Q' a b low next e =
    let each = both_true (has P' a) (has Q' b) e in and_from _ _ (has-down P P' a low each.0) (has-down Q Q' b next each.1)

-- `compl` or `comm`
command-comm : (Q : PlainPaths) (b c : Bool) → has Q Compl ≡ b → has Q Comm ≡ c → c ≡ true → ArePathsBelow (command_of Q) (one_end Comm)
command-comm Q true c e f g = rw e (and_above (here (ends compl_below)) none_left)
command-comm Q false true e f g = rw (e, f) (ArePathsBelow-refl (one_end Comm))
command-comm Q false false e f g = absurd (cc)

pub command-below : (R : Atom) (Q : PlainPaths) → is_command R ≡ true → ArePathsBelow Q (one_end R) → ArePathsBelow (command_of Q) (one_end R)
command-below Comm Q e low = command-comm Q (has Q Compl) (has Q Comm) refl refl (below-has low)
command-below Compl Q e low = let f : has Q Compl ≡ true = below-has low in rw f (ArePathsBelow-refl (one_end Compl))
command-below Int Q e low = absurd (cc)
command-below Truth Q e low = absurd (cc)
command-below Char Q e low = absurd (cc)
command-below IntAcc Q e low = absurd (cc)
command-below BoolAcc Q e low = absurd (cc)
command-below CharAcc Q e low = absurd (cc)

pub command-cases : (C : PlainPaths → Type 0) (Q : PlainPaths) → ((R : Atom) → is_command R ≡ true → ArePathsBelow Q (one_end R) → C (one_end R)) →
    C no_paths →
    C (command_of Q)
command-cases C Q f none = cases (has Q Compl) (has Q Comm) refl refl
  where
    cases : (b c : Bool) → has Q Compl ≡ b → has Q Comm ≡ c → C (command_of Q)
    cases true c e g = rw e (f Compl refl (has-below Q Compl e))
    cases false true e g = rw (e, g) (f Comm refl (has-below Q Comm g))
    cases false false e g = rw (e, g) none

pub command-mono : (P Q : PlainPaths) → ArePathsBelow P Q → ArePathsBelow (command_of P) (command_of Q)
command-mono P Q low =
    command-cases (λ X. ArePathsBelow (command_of P) X) Q (λ R is below. command-below R P is (ArePathsBelow-trans Q low below)) none_left
