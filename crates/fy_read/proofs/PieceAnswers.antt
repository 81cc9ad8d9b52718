-- What the functions of a reader do where a piece begins or ends.
use Rattle.std.proofs.Common.{◌≡◌, ◌⊎◌, ℕ, ◌+◌, ◌-◌, ◌*◌, ◌<◌, ◌≤◌, Bool, true, false, not, ◌&&◌, ◌||◌, nat_le, List, [], ◌∷◌, ◌++◌, length, refl, ap, sym, ◌∙◌, subst, arith, leb-true}
use Rattle.std.specs.Prelude.{Option, Some, None, if◌then◌else◌, decimal, ◌==◌}
use Rattle.std.specs.Option.{option_map}
use Rattle.std.proofs.lemmas.List.{append-nil}
use Rattle.std.proofs.lemmas.Bool.{and_from, and_parts}
use Rattle.fy_base.specs.Outside.{Bytes}
use Rattle.fy_lexer.specs.Tokens.{HasAdded}
use Rattle.fy_lexer.proofs.NamesLemmas.{HasAdded-with_name}
use Rattle.fy_types.specs.Names.{number_of, with_name}
use Rattle.fy_types.specs.Types.{PlainType}
use Rattle.fy_types.specs.Words.{is_letter, is_digit, is_name_byte, is_name_like, is_word}
use Rattle.fy_read.specs.declared.counts.Counted.{Counted}
use Rattle.fy_read.specs.declared.counts.Counted.TheVariants as counted
use Rattle.fy_read.specs.declared.read.Awaited.{Awaited}
use Rattle.fy_read.specs.declared.read.Awaited.TheVariants as awaited
use Rattle.fy_read.specs.declared.read.Begun as declared
use Rattle.fy_read.specs.declared.read.Begun.TheVariants as variant
use Rattle.fy_read.specs.declared.read.Reader.{Reader}
use Rattle.fy_read.specs.declared.words.TypeWord.{TypeWord}
use Rattle.fy_derive.specs.Derivations.{PlainDerivation, rule, no_derivations}
use Rattle.fy_read.specs.Halfway.{NodesRead, Stands, Holds}
use Rattle.fy_read.specs.Measures.{IsMeasured}
use Rattle.fy_read.specs.Opened.{PlainOpen, PlainNodes, with_node, given, missing, needed_by}
use Rattle.fy_read.specs.OpenTypes.{PlainLevels, with_inner, with_field, with_part, IsFieldDeep}
use Rattle.fy_read.specs.Readers.{reached_by, begun_by, IsUnfinished, takes_word, IsBegun, MayBegin, AreFit, AreSound, AreLed, AreEnded}
use Rattle.fy_read.specs.ReadSoFar.{HoldsBefore, HoldsAt, IsRead, in_number}
use Rattle.fy_read.specs.Spelling.{Piece, word, number, is_blank, IsTextOf}
use Rattle.fy_read.specs.Steps.{Reached, at, Spot, spot, Begun, nothing, letters, digits, after, begun_behind, lettered, first_digit, next_digit, type_word, part_type, least, greatest, step, ended, finish}
use Rattle.fy_read.specs.Steps as steps
use Rattle.fy_read.proofs.ByteLemmas.{chosen_not}
use Rattle.fy_read.proofs.EndLemmas.{ended_name, ended_type, no_type, no_word, stand_name, stand_type, no_count, ended_open, ended_rule, sound_loose, step-letter, step-behind_word, step-digit, step-behind_number, begun-blank}
use Rattle.fy_read.proofs.HalfwayLemmas.{Holds-piece, Holds-blank, whole_text}
use Rattle.fy_read.proofs.LexLemmas.{greatest_small}
use Rattle.fy_read.proofs.MeasureLemmas.{Moves}
use Rattle.fy_read.proofs.MoveLemmas.{move_name, move_type}
use Rattle.fy_read.proofs.ReadNodes.{opened, read_nothing}
use Rattle.fy_read.proofs.ReaderLemmas.{takes_may, led_digits, no_number, digit_text, digits_text, word_taken, holds_from}

-- ---- digits
pub unfinished_count : {a : Awaited} (n : PlainNodes) (c : Counted) → a ≡ awaited.Count c → IsUnfinished a n → n.whole ≡ None
unfinished_count n c e h = subst (λ a. IsUnfinished a n) e h

pub first_led : {a : Awaited} {b : declared.Begun} {w : Bytes} {l : Bool} {n : PlainNodes} {Ls : PlainLevels} (c : Counted) (d v k : ℕ) →
    AreSound a b w l n Ls → a ≡ awaited.Count c →
    Some v ≡ (if (d == 0) && not (least c == 0) then None else Some d) → AreLed (first_digit (reached_by a n k) d) a (variant.Number v) w l n Ls
first_led {a = a} {w = w} {l = l} {n = n} {Ls = Ls} c d v k s ea some =
    subst (λ a. AreLed (first_digit (reached_by a n k) d) a (variant.Number v) w l n Ls) (sym ea)
    (led_digits ((d == 0) && not (least c == 0)) d n Ls c (unfinished_count n c ea s.unfinished) s.waiting (sym some))

pub next_led : {a : Awaited} {b : declared.Begun} {w : Bytes} {l : Bool} {n : PlainNodes} {Ls : PlainLevels} (c : Counted) (u d v k : ℕ) →
    AreSound a b w l n Ls → a ≡ awaited.Count c →
    Some v ≡ (if (u == 0) || not (nat_le (10 * u + d) (greatest c)) then None else Some (10 * u + d)) →
    AreLed (next_digit (reached_by a n k) u d) a (variant.Number v) w l n Ls
next_led {a = a} {w = w} {l = l} {n = n} {Ls = Ls} c u d v k s ea some =
    subst (λ a. AreLed (next_digit (reached_by a n k) u d) a (variant.Number v) w l n Ls) (sym ea)
    (led_digits ((u == 0) || not (nat_le (10 * u + d) (greatest c))) (10 * u + d) n Ls c (unfinished_count n c ea s.unfinished) s.waiting (sym some))

none_if : {X : Type 0} (t : Bool) (d : ℕ) (x : X) → None ≡ (if t then None else Some d) → (if t then None else Some x) ≡ None
none_if true d x h = refl
none_if false d x h = absurd cc

pub first_misfit : {a : Awaited} (n : PlainNodes) (c : Counted) (d k : ℕ) → a ≡ awaited.Count c →
    None ≡ (if (d == 0) && not (least c == 0) then None else Some d) → first_digit (reached_by a n k) d ≡ None
first_misfit n c d k ea none = subst (λ a. first_digit (reached_by a n k) d ≡ None) (sym ea) (none_if ((d == 0) && not (least c == 0)) d _ none)

pub next_misfit : {a : Awaited} (n : PlainNodes) (c : Counted) (u d k : ℕ) → a ≡ awaited.Count c →
    None ≡ (if (u == 0) || not (nat_le (10 * u + d) (greatest c)) then None else Some (10 * u + d)) → next_digit (reached_by a n k) u d ≡ None
next_misfit n c u d k ea none =
    subst (λ a. next_digit (reached_by a n k) u d ≡ None) (sym ea) (none_if ((u == 0) || not (nat_le (10 * u + d) (greatest c))) (10 * u + d) _ none)

is_some : (t : Bool) (d v : ℕ) → Some v ≡ (if t then None else Some d) → (t ≡ false) × (d ≡ v)
is_some true d v h = absurd cc
is_some false d v h = (refl, cc)

pub first_read : {names : List Bytes} {text : Bytes} {q : Reader} (c : Counted) (b v : ℕ) → is_digit b ≡ true → q.begun ≡ variant.Number v →
    Some v ≡ (if ((b - 48) == 0) && not (least c == 0) then None else Some (b - 48)) → HoldsAt names text false q → IsRead names (text ++ b ∷ []) q
first_read {text = text} c b v digit eb some h =
    in_number v eb (record { done = text; is = digit_text text b v digit (is_some _ (b - 48) v some).1; holds = h })

pub next_read : {names : List Bytes} {text : Bytes} {r q : Reader} (c : Counted) (b u v : ℕ) → is_digit b ≡ true → q.begun ≡ variant.Number v →
    Some v ≡ (if (u == 0) || not (nat_le (10 * u + (b - 48)) (greatest c)) then None else Some (10 * u + (b - 48))) →
    HoldsBefore names text (decimal u) r →
    ((done : Bytes) → HoldsAt names done false r → HoldsAt names done false q) → IsRead names (text ++ b ∷ []) q
next_read {text = text} c b u v digit eb some h turn =
    let t = is_some _ (10 * u + (b - 48)) v some in
    in_number v eb (record {
      done = h.done;
      is = digits_text text h.done b u v (greatest c) digit h.is t.0 t.1
          (greatest_small c);
      holds = turn h.done h.holds;
    })

-- ---- the end of a word
pub word_of : {a : Awaited} {b : declared.Begun} {w : Bytes} {l : Bool} {n : PlainNodes} {Ls : PlainLevels} → b ≡ variant.Word →
    AreSound a b w l n Ls → IsBegun variant.Word a n w l
word_of {a = a} {w = w} {l = l} {n = n} eb s = subst (λ b. IsBegun b a n w l) eb s.begun

pub like_of : {a : Awaited} (n : PlainNodes) (w : Bytes) (l : Bool) → a ≡ awaited.Part → IsBegun variant.Word a n w l → is_name_like w ≡ true
like_of n w l ea h = subst (λ a. IsBegun variant.Word a n w l) ea h

ended_at : {a a2 : Awaited} {b b2 : declared.Begun} {v : Bytes} {k : Bool} {m : PlainNodes} {Ls Ks : PlainLevels} (w : Bytes) (l : Bool)
    (n : PlainNodes) (p : ℕ) (a' : Awaited) (b' : declared.Begun) → a ≡ a' → b ≡ b' → Ks ≡ Ls →
    AreEnded (ended (spot (reached_by a' n p) (begun_by b' w l))) a2 b2 v k m Ls →
    AreEnded (ended (spot (reached_by a n p) (begun_by b w l))) a2 b2 v k m Ks
ended_at {a2 = a2} {b = b} {b2 = b2} {v = v} {k = k} {m = m} {Ks = Ks} w l n p a' b' ea eb eK h =
    subst (λ a. AreEnded (ended (spot (reached_by a n p) (begun_by b w l))) a2 b2 v k m Ks) (sym ea)
    (subst (λ b. AreEnded (ended (spot (reached_by a' n p) (begun_by b w l))) a2 b2 v k m Ks) (sym eb)
    (subst (λ Ls. AreEnded (ended (spot (reached_by a' n p) (begun_by b' w l))) a2 b2 v k m Ls) (sym eK) h))

pub name_ended : {a : Awaited} {b : declared.Begun} {w : Bytes} {l : Bool} {n : PlainNodes} {Ls Ks : PlainLevels} (i : ℕ) → AreSound a b w l n Ls →
    b ≡ variant.Word → a ≡ awaited.Part → is_word w ≡ false →
    ¬ IsFieldDeep Ls → Ks ≡ with_inner Ls (with_field Ls.inner i) →
    AreEnded (ended (spot (reached_by a n (length Ls.outer)) (begun_by b w l))) awaited.Colon variant.Nothing w true n Ks
name_ended {w = w} {l = l} {n = n} {Ls = Ls} i s eb ea other within eK =
    ended_at w l n (length Ls.outer) awaited.Part variant.Word ea eb eK
    (ended_name n Ls _ i (subst (λ a. IsUnfinished a n) ea s.unfinished) s.waiting (subst (λ a. AreFit a Ls) ea s.levels) within
    (like_of n w l ea (word_of eb s)) other)

pub type_ended : {a : Awaited} {b : declared.Begun} {w : Bytes} {l : Bool} {n : PlainNodes} {Ls Ks : PlainLevels} {T : PlainType} (x : TypeWord) →
    AreSound a b w l n Ls → b ≡ variant.Word → a ≡ awaited.Part →
    is_word w ≡ true → type_word w ≡ Some x → T ≡ part_type x → Ks ≡ with_inner Ls (with_part Ls.inner T) →
    AreEnded (ended (spot (reached_by a n (length Ls.outer)) (begun_by b w l))) awaited.Joint variant.Nothing w true n Ks
type_ended {w = w} {l = l} {n = n} {Ls = Ls} x s eb ea one known is eK =
    ended_at w l n (length Ls.outer) awaited.Part variant.Word ea eb (eK ∙ ap (λ T. with_inner Ls (with_part Ls.inner T)) is)
    (ended_type n Ls _ x (subst (λ a. IsUnfinished a n) ea s.unfinished) s.waiting (subst (λ a. AreFit a Ls) ea s.levels)
    (like_of n w l ea (word_of eb s)) one known)

none_ended : {b : declared.Begun} (a : Awaited) (w : Bytes) (l : Bool) (n : PlainNodes) (p : ℕ) (b' : declared.Begun) → b ≡ b' →
    ended (spot (reached_by a n p) (begun_by b' w l)) ≡ None →
    ended (spot (reached_by a n p) (begun_by b w l)) ≡ None
none_ended a w l n p b' eb h = subst (λ b. ended (spot (reached_by a n p) (begun_by b w l)) ≡ None) (sym eb) h

pub type_misfit : {a : Awaited} {b : declared.Begun} {w : Bytes} {l : Bool} {n : PlainNodes} {Ls : PlainLevels} (p : ℕ) → AreSound a b w l n Ls →
    b ≡ variant.Word → a ≡ awaited.Part → is_word w ≡ true → type_word w ≡ None →
    ended (spot (reached_by a n p) (begun_by b w l)) ≡ None
type_misfit {a = a} {w = w} {l = l} {n = n} p s eb ea one unknown =
    none_ended a w l n p variant.Word eb (subst (λ a. after (reached_by a n p) (word w) ≡ None) (sym ea)
    (no_type n p w (like_of n w l ea (word_of eb s)) one unknown))

pub word_misfit : {a : Awaited} {b : declared.Begun} {w : Bytes} {l : Bool} {n : PlainNodes} {Ls : PlainLevels} (p : ℕ) → AreSound a b w l n Ls →
    b ≡ variant.Word → (a ≡ awaited.Part → ⊥) →
    ended (spot (reached_by a n p) (begun_by b w l)) ≡ None
word_misfit {a = a} {w = w} {l = l} {n = n} p s eb other = none_ended a w l n p variant.Word eb (no_word a n p w l other (word_of eb s))

pub name_read : {q : ℕ} {names later : List Bytes} {text : Bytes} {a : Awaited} {b : declared.Begun} {w : Bytes} {l : Bool} {n : PlainNodes} {Ls Ks : PlainLevels} {i : ℕ} (done : Bytes) → AreSound a b w l n Ls → b ≡ variant.Word →
    a ≡ awaited.Part → is_word w ≡ false → later ≡ with_name names w → HasAdded names later → i ≡ number_of names w →
    Ks ≡ with_inner Ls (with_field Ls.inner i) → text ≡ done ++ w →
    Holds q names done false a n Ls → Holds q later (text ++ []) true awaited.Colon n Ks
name_read {q = q} {names = names} {later = later} {text = text} {w = w} {l = l} {n = n} {Ls = Ls} {i = i} done s eb ea other grown added numbered eK is h =
    holds_from refl refl refl refl (eK ∙ ap (λ i. with_inner Ls (with_field Ls.inner i)) numbered)
    (word_taken w done (append-nil text
    ∙ is) (move_name n Ls w _ (like_of n w l ea (word_of eb s)) other) (λ ps g. stand_name n Ls w grown added
    (like_of n w l ea (word_of eb s)) other g) (subst (λ a. Holds q names done false a n Ls) ea h))

pub type_read : {q : ℕ} {names : List Bytes} {text : Bytes} {a : Awaited} {n : PlainNodes} {Ls Ks : PlainLevels} {T : PlainType} (w done : Bytes)
    (x : TypeWord) → HasAdded names names → is_name_like w ≡ true → is_word w ≡ true → a ≡ awaited.Part →
    type_word w ≡ Some x → T ≡ part_type x → Ks ≡ with_inner Ls (with_part Ls.inner T) → text ≡ done ++ w → Holds q names done false a n Ls →
    Holds q names (text ++ []) true awaited.Joint n Ks
type_read {q = q} {names = names} {text = text} {n = n} {Ls = Ls} w done x same like one ea known is eK isw h =
    holds_from refl refl refl refl (eK ∙ ap (λ T. with_inner Ls (with_part Ls.inner T)) is)
    (word_taken w done (append-nil text ∙ isw) (move_type n Ls w x like one known) (λ ps g. stand_type n Ls w x same known g)
    (subst (λ a. Holds q names done false a n Ls) ea h))

-- ---- the end of a number
number_at : {a a2 : Awaited} {b b2 : declared.Begun} {v : Bytes} {k : Bool} {m m' : PlainNodes} {Ls : PlainLevels} {x : ℕ} (w : Bytes) (l : Bool)
    (n : PlainNodes) (p : ℕ) (a' : Awaited) → a ≡ a' → b ≡ variant.Number x → m ≡ m' →
    AreEnded (after (reached_by a' n p) (number x)) a2 b2 v k m' Ls → AreEnded (ended (spot (reached_by a n p) (begun_by b w l))) a2 b2 v k m Ls
number_at {a2 = a2} {b = b} {b2 = b2} {v = v} {k = k} {m = m} {Ls = Ls} {x = x} w l n p a' ea eb em h =
    subst (λ a. AreEnded (ended (spot (reached_by a n p) (begun_by b w l))) a2 b2 v k m Ls) (sym ea)
    (subst (λ b. AreEnded (ended (spot (reached_by a' n p) (begun_by b w l))) a2 b2 v k m Ls) (sym eb)
    (subst (λ m. AreEnded (after (reached_by a' n p) (number x)) a2 b2 v k m Ls) (sym em) h))

pub open_ended : {a : Awaited} {b : declared.Begun} {w : Bytes} {l : Bool} {n m : PlainNodes} {Ls : PlainLevels} (c : Counted) (o : PlainOpen)
    (x : ℕ) → AreSound a b w l n Ls → a ≡ awaited.Count c → b ≡ variant.Number x →
    least c ≤ x → x ≤ greatest c → 0 < missing o → steps.wanted c x ≡ missing o → m ≡ with_node o n →
    AreEnded (ended (spot (reached_by a n (length Ls.outer)) (begun_by b w l))) awaited.Node variant.Nothing w true m Ls
open_ended {w = w} {l = l} {n = n} {Ls = Ls} c o x s ea eb low high some many em =
    number_at w l n (length Ls.outer) (awaited.Count c) ea eb em (ended_open o n Ls c x
    (unfinished_count n c ea s.unfinished) s.waiting low high some many)

pub rule_ended : {a : Awaited} {b : declared.Begun} {w : Bytes} {l : Bool} {n m : PlainNodes} {Ls : PlainLevels} (x : ℕ) → AreSound a b w l n Ls →
    a ≡ awaited.Count counted.Premises → b ≡ variant.Number x → x ≡ 0 →
    m ≡ given n.waiting (rule no_derivations) →
    AreEnded (ended (spot (reached_by a n (length Ls.outer)) (begun_by b w l))) awaited.Node variant.Nothing w true m Ls
rule_ended {w = w} {l = l} {n = n} {Ls = Ls} x s ea eb zero_is em =
    number_at w l n (length Ls.outer) (awaited.Count counted.Premises) ea (eb
    ∙ ap variant.Number zero_is) em (ended_rule n Ls (unfinished_count n counted.Premises ea s.unfinished) s.waiting)

pub number_misfit : {b : declared.Begun} (a : Awaited) (w : Bytes) (l : Bool) (n : PlainNodes) (p x : ℕ) → b ≡ variant.Number x →
    ((c : Counted) → a ≡ awaited.Count c → ⊥) → ended (spot (reached_by a n p) (begun_by b w l)) ≡ None
number_misfit a w l n p x eb other = none_ended a w l n p (variant.Number x) eb (no_number a n p x other)

pub count_misfit : {b : declared.Begun} (a : Awaited) (w : Bytes) (l : Bool) (n : PlainNodes) (p x : ℕ) (c : Counted) → b ≡ variant.Number x →
    a ≡ awaited.Count c → (x < least c) ⊎ (greatest c < x) →
    ended (spot (reached_by a n p) (begun_by b w l)) ≡ None
count_misfit a w l n p x c eb ea out =
    none_ended a w l n p (variant.Number x) eb (subst (λ a. after (reached_by a n p) (number x) ≡ None) (sym ea) (no_count n p x c out))

-- a number's text, with what stands behind it
pub number_taken : {q j : ℕ} {names : List Bytes} {text : Bytes} {a : Awaited} {n m m' : PlainNodes} {Ls : PlainLevels} (a' : Awaited) (x : ℕ)
    (done : Bytes) →
    j ≡ q → a ≡ a' → m ≡ m' → text ≡ done ++ decimal x →
    Moves q q a' n Ls (number x) awaited.Node m' Ls → ((ps : List Piece) → Stands names a' n Ls ps → Stands names awaited.Node m' Ls
    (ps ++ number x ∷ [])) → Holds q names done false a n Ls →
    Holds j names (text ++ []) true awaited.Node m Ls
number_taken {q = q} {names = names} {text = text} {n = n} {m' = m'} {Ls = Ls} a' x done eq ea em is moves turn h =
    holds_from eq refl refl em refl
    (subst (λ t. Holds q names t true awaited.Node m' Ls) (sym (append-nil text
    ∙ is)) (Holds-piece (number x) refl moves turn (subst (λ a. Holds q names done false a n Ls) ea h)))

-- ---- the byte behind a piece
begun_same : {b : declared.Begun} (w : Bytes) (l : Bool) (c : Reached) (x : ℕ) (b' : declared.Begun) → b ≡ b' →
    step (spot c (begun_by b w l)) x ≡ step (spot c (begun_by b' w l)) x
begun_same w l c x b' eb = ap (λ b. step (spot c (begun_by b w l)) x) eb

pub ended_same : {b : declared.Begun} (w : Bytes) (l : Bool) (c : Reached) (b' : declared.Begun) → b ≡ b' →
    ended (spot c (begun_by b w l)) ≡ ended (spot c (begun_by b' w l))
ended_same w l c b' eb = ap (λ b. ended (spot c (begun_by b w l))) eb

pub word_goes : {b : declared.Begun} (w : Bytes) (l : Bool) (c : Reached) (x : ℕ) → b ≡ variant.Word → is_name_byte x ≡ true →
    step (spot c (begun_by b w l)) x ≡ lettered c (w ++ x ∷ [])
word_goes w l c x eb name = begun_same w l c x variant.Word eb ∙ step-letter c w x name

pub word_then : {b : declared.Begun} {k : Bool} {d : Reached} (w : Bytes) (l : Bool) (c : Reached) (x : ℕ) → b ≡ variant.Word →
    is_name_byte x ≡ false → ended (spot c (begun_by b w l)) ≡ Some d → k ≡ true →
    step (spot c (begun_by b w l)) x ≡ steps.begun_by d k x
word_then {d = d} w l c x eb other e ek =
    begun_same w l c x variant.Word eb
    ∙ (step-behind_word c w x other ∙ (ap (λ o. begun_behind o x) (sym (ended_same w l c variant.Word eb) ∙ e) ∙ ap (λ k. steps.begun_by d k x)
    (sym ek)))

pub word_lost : {b : declared.Begun} (w : Bytes) (l : Bool) (c : Reached) (x : ℕ) → b ≡ variant.Word → is_name_byte x ≡ false →
    ended (spot c (begun_by b w l)) ≡ None → step (spot c (begun_by b w l)) x ≡ None
word_lost w l c x eb other e =
    begun_same w l c x variant.Word eb ∙ (step-behind_word c w x other ∙ ap (λ o. begun_behind o x) (sym (ended_same w l c variant.Word eb) ∙ e))

pub number_goes : {b : declared.Begun} (w : Bytes) (l : Bool) (c : Reached) (v x : ℕ) → b ≡ variant.Number v → is_digit x ≡ true →
    step (spot c (begun_by b w l)) x ≡ next_digit c v (x - 48)
number_goes w l c v x eb digit = begun_same w l c x (variant.Number v) eb ∙ step-digit c v x digit

pub number_then : {b : declared.Begun} {k : Bool} {d : Reached} (w : Bytes) (l : Bool) (c : Reached) (v x : ℕ) → b ≡ variant.Number v →
    is_digit x ≡ false → ended (spot c (begun_by b w l)) ≡ Some d → k ≡ true →
    step (spot c (begun_by b w l)) x ≡ steps.begun_by d k x
number_then {d = d} w l c v x eb other e ek =
    begun_same w l c x (variant.Number v) eb
    ∙ (step-behind_number c v x other
    ∙ (ap (λ o. begun_behind o x) (sym (ended_same w l c (variant.Number v) eb) ∙ e) ∙ ap (λ k. steps.begun_by d k x) (sym ek)))

pub number_lost : {b : declared.Begun} (w : Bytes) (l : Bool) (c : Reached) (v x : ℕ) → b ≡ variant.Number v → is_digit x ≡ false →
    ended (spot c (begun_by b w l)) ≡ None → step (spot c (begun_by b w l)) x ≡ None
number_lost w l c v x eb other e =
    begun_same w l c x (variant.Number v) eb
    ∙ (step-behind_number c v x other ∙ ap (λ o. begun_behind o x) (sym (ended_same w l c (variant.Number v) eb) ∙ e))

-- ---- a blank, and what else begins
pub blank_led : {a : Awaited} {b : declared.Begun} {w : Bytes} {l : Bool} {n : PlainNodes} {Ls : PlainLevels} (x : ℕ) → AreSound a b w l n Ls →
    b ≡ variant.Nothing → is_blank x ≡ true →
    AreLed (steps.begun_by (reached_by a n (length Ls.outer)) l x) a b w false n Ls
blank_led {a = a} {b = b} {w = w} {l = l} {n = n} {Ls = Ls} x s eb blank =
    let c = reached_by a n (length Ls.outer) in
    record { at = begun-blank c l x blank ∙ ap (λ b. Some (spot c (begun_by b w false))) (sym eb); sound = sound_loose b false eb s }

pub blank_read : {q : ℕ} {names : List Bytes} {text : Bytes} {l : Bool} {a : Awaited} {n : PlainNodes} {Ls : PlainLevels} (x : ℕ) →
    is_blank x ≡ true →
    Holds q names text l a n Ls → Holds q names (text ++ x ∷ []) false a n Ls
blank_read x blank h = Holds-blank x blank h

pub at_loose : {q : ℕ} {names : List Bytes} {text : Bytes} {l : Bool} {a : Awaited} {n : PlainNodes} {Ls : PlainLevels} (k : Bool) → l ≡ k →
    Holds q names text l a n Ls → Holds q names text k a n Ls
at_loose {q = q} {names = names} {text = text} {a = a} {n = n} {Ls = Ls} k e h = subst (λ l. Holds q names text l a n Ls) e h

-- the first letter
letter_like : (x : ℕ) → is_letter x ≡ true → is_name_like (x ∷ []) ≡ true
letter_like x h = and_from _ _ h refl

pub word_begins : (a : Awaited) (n : PlainNodes) (w : Bytes) (x : ℕ) → w ≡ [] → takes_word a n ≡ true → is_letter x ≡ true →
    MayBegin a n (w ++ x ∷ [])
word_begins a n w x none takes letter = subst (λ w. MayBegin a n (w ++ x ∷ [])) (sym none) (takes_may a n (x ∷ []) takes (letter_like x letter))

pub led_same : {o p : Option Spot} {a : Awaited} {b : declared.Begun} {w : Bytes} {l : Bool} {n : PlainNodes} {Ls : PlainLevels} → p ≡ o →
    AreLed p a b w l n Ls → AreLed o a b w l n Ls
led_same {a = a} {b = b} {w = w} {l = l} {n = n} {Ls = Ls} e h = subst (λ o. AreLed o a b w l n Ls) e h

-- a list with a name
pub added_as : (names : List Bytes) (w : Bytes) (later : List Bytes) → later ≡ with_name names w → HasAdded names later
added_as names w later e = subst (HasAdded names) (sym e) (HasAdded-with_name names w)

pub named_as : {w v : Bytes} (names : List Bytes) → w ≡ v → with_name names w ≡ with_name names v
named_as names e = ap (with_name names) e

pub number_as : {w v : Bytes} (names : List Bytes) → w ≡ v → number_of names w ≡ number_of names v
number_as names e = ap (number_of names) e

-- the whole, at the end of its text
pub whole_read : {q : ℕ} {names : List Bytes} {text : Bytes} {l : Bool} {a : Awaited} {n : PlainNodes} {Ls : PlainLevels} (d : PlainDerivation) →
    a ≡ awaited.Node → n.whole ≡ Some d → Holds q names text l a n Ls → IsTextOf names d text
whole_read {q = q} {names = names} {text = text} {l = l} {n = n} {Ls = Ls} d ea whole h =
    whole_text n d whole (subst (λ a. Holds q names text l a n Ls) ea h)

pub whole_finish : {a : Awaited} (n : PlainNodes) (d : PlainDerivation) (k : ℕ) → a ≡ awaited.Node → n.whole ≡ Some d →
    Some (reached_by a n k) ≡ Some finish
whole_finish n d k ea whole =
    ap (λ a. Some (reached_by a n k)) ea ∙ ap (λ o. Some (at (needed_by o n.waiting) 0 awaited.Node)) whole

other_finish : (a : Awaited) (n : PlainNodes) (k : ℕ) → (a ≡ awaited.Node → ⊥) → Some (reached_by a n k) ≡ Some finish → ⊥
other_finish awaited.Node n k other h = other refl
other_finish awaited.Bracket n k other h = absurd cc
other_finish (awaited.Count c) n k other h = absurd cc
other_finish awaited.Part n k other h = absurd cc
other_finish awaited.Colon n k other h = absurd cc
other_finish awaited.Joint n k other h = absurd cc

none_finish : (o : Option PlainDerivation) (os : List PlainOpen) → o ≡ None → Some (at (needed_by o os) 0 awaited.Node) ≡ Some finish → ⊥
none_finish None os e h = absurd cc
none_finish (Some d) os e h = absurd cc

pub no_finish : (a : Awaited) (n : PlainNodes) (k : ℕ) → (a ≡ awaited.Node → ⊥) → Some (reached_by a n k) ≡ Some finish → ⊥
no_finish a n k other h = other_finish a n k other h

pub not_whole : {a : Awaited} (n : PlainNodes) (k : ℕ) → a ≡ awaited.Node → n.whole ≡ None → Some (reached_by a n k) ≡ Some finish → ⊥
not_whole n k ea none h = none_finish n.whole n.waiting none (sym (ap (λ a. Some (reached_by a n k)) ea) ∙ h)

-- the bounds of a number
pub count_bounds : (c d : Counted) (v : ℕ) → c ≡ d → (nat_le (least c) v && nat_le v (greatest c)) ≡ true → (least d ≤ v) × (v ≤ greatest d)
count_bounds c d v e h =
    let t = and_parts (nat_le (least c) v) (nat_le v (greatest c)) h in
    subst (λ c. (least c ≤ v) × (v ≤ greatest c)) e (leb-true (least c) v t.0, leb-true v (greatest c) t.1)

pub count_out : {b : declared.Begun} (a : Awaited) (w : Bytes) (l : Bool) (n : PlainNodes) (p x : ℕ) (c : Counted) → b ≡ variant.Number x →
    a ≡ awaited.Count c → (nat_le (least c) x && nat_le x (greatest c)) ≡ false →
    ended (spot (reached_by a n p) (begun_by b w l)) ≡ None
count_out a w l n p x c eb ea out =
    none_ended a w l n p (variant.Number x) eb (subst (λ a. after (reached_by a n p) (number x) ≡ None) (sym ea)
    (chosen_not (nat_le (least c) x && nat_le x (greatest c)) _ _ out))

pub zero_text : {x : ℕ} (done : Bytes) → x ≡ 0 → done ++ decimal x ≡ done ++ decimal 0
zero_text done e = ap (λ x. done ++ decimal x) e

pub piece_step : {b : declared.Begun} (w : Bytes) (l : Bool) (c : Reached) (x : ℕ) → b ≡ variant.Nothing →
    step (spot c (begun_by b w l)) x ≡ steps.begun_by c l x
piece_step w l c x eb = begun_same w l c x variant.Nothing eb

pub piece_ended : {b : declared.Begun} (w : Bytes) (l : Bool) (c : Reached) → b ≡ variant.Nothing → ended (spot c (begun_by b w l)) ≡ Some c
piece_ended w l c eb = ended_same w l c variant.Nothing eb

pub dash_ended : {b : declared.Begun} (w : Bytes) (l : Bool) (c : Reached) → b ≡ variant.Dash → ended (spot c (begun_by b w l)) ≡ None
dash_ended w l c eb = ended_same w l c variant.Dash eb

pub read_nil : {names : List Bytes} {text : Bytes} {r : Reader} → IsRead names (text ++ []) r → IsRead names text r
read_nil {names = names} {text = text} {r = r} h = subst (λ t. IsRead names t r) (append-nil text) h

pub mapped_none : {X Y : Type 0} (f : X → Y) (o : Option X) (p : Option Y) → o ≡ None → option_map f o ≡ p → p ≡ None
mapped_none f o p none e = sym e ∙ ap (option_map f) none

pub none_at_finish : {o : Option Reached} → o ≡ None → o ≡ Some finish → ⊥
none_at_finish none h = let e : None ≡ Some finish = sym none ∙ h in absurd cc

-- the beginning
pub nothing_read : {q : ℕ} {Ls : PlainLevels} {n : PlainNodes} (names : List Bytes) → q ≡ 0 → n ≡ opened [] → Holds q names [] false awaited.Node n Ls
nothing_read {q = q} {Ls = Ls} names none e = record {
  pieces = [];
  spelled = λ qs more s. s;
  stands = subst (λ n. NodesRead names n []) (sym e) (read_nothing names);
  measured = subst (λ n. IsMeasured q awaited.Node n Ls []) (sym e) (record {
    leads = refl;
    shape = refl;
    nest = refl;
    parens = refl;
    words = sym none;
    few = omega (arith, none);
    shallow = omega arith;
    few_open = omega arith;
    types = omega arith;
  });
}
