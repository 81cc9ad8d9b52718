-- The steps of a reader, over what its parts stand for.
use Rattle.std.proofs.Common.{◌≡◌, ℕ, zero, suc, ◌+◌, ◌-◌, ◌*◌, ◌<◌, ◌^◌, Bool, true, false, not, ◌||◌, nat_le, IsTrue, List, [], ◌∷◌, ◌++◌, length, refl, ap, sym, ◌∙◌, subst, arith, append_assoc, eqb-true}
use Rattle.std.specs.Prelude.{Option, Some, None, if◌then◌else◌, decimal, ◌==◌}
use Rattle.std.specs.Option.{is_some}
use Rattle.std.proofs.lemmas.Fmt.{decimal_digit}
use Rattle.fy_base.specs.Outside.{Bytes}
use Rattle.fy_types.specs.Types.{PlainType}
use Rattle.fy_types.specs.Words.{is_digit, is_name_like}
use Rattle.fy_read.specs.declared.counts.Counted.{Counted}
use Rattle.fy_read.specs.declared.read.Awaited.{Awaited}
use Rattle.fy_read.specs.declared.read.Awaited.TheVariants as awaited
use Rattle.fy_read.specs.declared.read.Begun as declared
use Rattle.fy_read.specs.declared.read.Begun.TheVariants as variant
use Rattle.fy_read.specs.declared.words.NodeWord.{NodeWord}
use Rattle.fy_read.specs.declared.words.NodeWord.TheVariants as node
use Rattle.fy_derive.specs.Derivations.{PlainDerivation, by_ns}
use Rattle.fy_read.specs.Halfway.{Stands, Holds}
use Rattle.fy_read.specs.Opened.{PlainOpen, in_sub, PlainNodes, with_node, given, missing, extra, needed, needed_by, AreWaiting}
use Rattle.fy_read.specs.OpenTypes.{PlainLevel, PlainLevels, no_levels, with_open, closed_by, with_closed, TakesPart, TakesJoint}
use Rattle.fy_read.specs.Readers.{reached_by, takes_word, MayBegin, AreLed}
use Rattle.fy_read.specs.Spelling.{Piece, word, number, sign, Sign, open_bracket, close_bracket, open_paren, close_paren, colon, arrow, ampersand}
use Rattle.fy_read.specs.Steps.{Reached, at, Spot, spot, nothing, letters, digits, after, after_node, after_known, after_sign, sign_of, behind, signed, dashed, lettered, first_digit, next_digit, node_word, begins_node_word, node_text}
use Rattle.fy_read.proofs.ByteLemmas.{chosen_so, chosen_not}
use Rattle.fy_read.proofs.HalfwayLemmas.{Holds-piece}
use Rattle.fy_read.proofs.LevelLemmas.{first_room, open_room, close_joint}
use Rattle.fy_read.proofs.LexLemmas.{digit_value, digits_within, decimal_longer}
use Rattle.fy_read.proofs.MeasureLemmas.{Moves}
use Rattle.fy_read.proofs.OpenLemmas.{given_needed}

-- the same of equal parts
pub led_from : {o : Option Spot} {a a' : Awaited} {b b' : declared.Begun} {w w' : Bytes} {l l' : Bool} {n n' : PlainNodes} {Ls Ls' : PlainLevels} →
    a ≡ a' → b ≡ b' → w ≡ w' → l ≡ l' → n ≡ n' → Ls ≡ Ls' → AreLed o a' b' w' l' n' Ls' → AreLed o a b w l n Ls
led_from {o = o} {a = a} {a' = a'} {b = b} {b' = b'} {w = w} {w' = w'} {l = l} {l' = l'} {n = n} {n' = n'} {Ls = Ls} {Ls' = Ls'} ea eb ew el en eL h =
    subst (λ a. AreLed o a b w l n Ls) (sym ea) (subst (λ b. AreLed o a' b w l n Ls) (sym eb) (subst (λ w. AreLed o a' b' w l n Ls) (sym ew)
    (subst (λ l. AreLed o a' b' w' l n Ls) (sym el) (subst (λ n. AreLed o a' b' w' l' n Ls) (sym en) (subst (AreLed o a' b' w' l' n') (sym eL) h)))))

pub holds_from : {q q' : ℕ} {names : List Bytes} {text : Bytes} {a a' : Awaited} {l l' : Bool} {n n' : PlainNodes} {Ls Ls' : PlainLevels} →
    q ≡ q' → l ≡ l' → a ≡ a' → n ≡ n' → Ls ≡ Ls' → Holds q' names text l' a' n' Ls' → Holds q names text l a n Ls
holds_from {q = q} {q' = q'} {names = names} {text = text} {a = a} {a' = a'} {l = l} {l' = l'} {n = n} {n' = n'} {Ls = Ls} {Ls' = Ls'} eq el ea en eL h =
    subst (λ q. Holds q names text l a n Ls) (sym eq) (subst (λ l. Holds q' names text l a n Ls) (sym el)
    (subst (λ a. Holds q' names text l' a n Ls) (sym ea)
    (subst (λ n. Holds q' names text l' a' n Ls) (sym en) (subst (Holds q' names text l' a' n') (sym eL) h))))

-- a node's word has come
pub led_ns : {w : Bytes} (n : PlainNodes) (Ls : PlainLevels) → AreWaiting n.waiting →
    AreLed (Some (spot (after_node (extra n.waiting) node.Ns) (nothing true))) awaited.Node variant.Nothing w true (given n.waiting by_ns) Ls
led_ns n Ls waiting =
    let t = given_needed n.waiting waiting by_ns in
    record {
      at = ap (λ k. Some (spot (at k 0 awaited.Node) (nothing true)))
          (sym t.0);
      sound = record { waiting = t.1; unfinished = tt; levels = tt; begun = tt };
    }

needed-open : (o : PlainOpen) (n : PlainNodes) → n.whole ≡ None → needed (with_node o n) ≡ suc ((missing o - 1) + extra n.waiting)
needed-open o n none = ap (λ w. needed_by w (o ∷ n.waiting)) none

-- a node that waits for so many
pub led_open : {w : Bytes} {l : Bool} (o : PlainOpen) (n : PlainNodes) (Ls : PlainLevels) (m : ℕ) → n.whole ≡ None → AreWaiting n.waiting →
    0 < missing o → m ≡ missing o + extra n.waiting →
    AreLed (Some (spot (at m 0 awaited.Node) (nothing l))) awaited.Node variant.Nothing w l (with_node o n) Ls
led_open {l = l} o n Ls m none waiting some many =
    record {
      at = ap (λ k. Some (spot (at k 0 awaited.Node) (nothing l)))
          (omega (arith, many, some, needed-open o n none));
      sound = record { waiting = (some, waiting); unfinished = tt; levels = tt; begun = tt };
    }

-- a node that waits for a bracket, or a number
pub led_bracket : {w : Bytes} (n : PlainNodes) (Ls : PlainLevels) → n.whole ≡ None → AreWaiting n.waiting →
    AreLed (Some (spot (at (extra n.waiting) 0 awaited.Bracket) (nothing true))) awaited.Bracket variant.Nothing w true n Ls
led_bracket n Ls none waiting = record { at = refl; sound = record { waiting = waiting; unfinished = none; levels = tt; begun = tt } }

pub led_count : {w : Bytes} (c : Counted) (n : PlainNodes) (Ls : PlainLevels) → n.whole ≡ None → AreWaiting n.waiting →
    AreLed (Some (spot (at (extra n.waiting) 0 (awaited.Count c)) (nothing true))) (awaited.Count c) variant.Nothing w true n Ls
led_count c n Ls none waiting = record { at = refl; sound = record { waiting = waiting; unfinished = none; levels = tt; begun = tt } }

-- a word that had begun is whole
pub word_taken : {q j : ℕ} {names later : List Bytes} {text : Bytes} {a b : Awaited} {n m : PlainNodes} {Ls Ks : PlainLevels} (w done : Bytes) →
    text ≡ done ++ w →
    Moves q j a n Ls (word w) b m Ks → ((ps : List Piece) → Stands names a n Ls ps → Stands later b m Ks (ps ++ word w ∷ [])) →
    Holds q names done false a n Ls → Holds j later text true b m Ks
word_taken {j = j} {later = later} {b = b} {m = m} {Ks = Ks} w done is moves turn h =
    subst (λ t. Holds j later t true b m Ks) (sym is) (Holds-piece (word w) refl moves turn h)

-- where a word may come
pub may_node : (a : Awaited) (n : PlainNodes) (w : Bytes) → MayBegin a n w → (a ≡ awaited.Part → ⊥) → (a ≡ awaited.Node) × (n.whole ≡ None)
may_node awaited.Node n w h other = (refl, h)
may_node awaited.Bracket n w h other = absurd h
may_node (awaited.Count c) n w h other = absurd h
may_node awaited.Part n w h other = absurd (other refl)
may_node awaited.Colon n w h other = absurd h
may_node awaited.Joint n w h other = absurd h

takes_node : (o : Option PlainDerivation) → not (is_some o) ≡ true → o ≡ None
takes_node None h = refl
takes_node (Some d) h = absurd cc

pub takes_may : (a : Awaited) (n : PlainNodes) (w : Bytes) → takes_word a n ≡ true → is_name_like w ≡ true → MayBegin a n w
takes_may awaited.Node n w h like = takes_node n.whole h
takes_may awaited.Bracket n w h like = absurd cc
takes_may (awaited.Count c) n w h like = absurd cc
takes_may awaited.Part n w h like = like
takes_may awaited.Colon n w h like = absurd cc
takes_may awaited.Joint n w h like = absurd cc

takes_no_node : (o : Option PlainDerivation) (os : List PlainOpen) (w : Bytes) → not (is_some o) ≡ false →
    lettered (at (needed_by o os) 0 awaited.Node) w ≡ None
takes_no_node None os w h = absurd cc
takes_no_node (Some d) os w h = refl

pub takes_none : (a : Awaited) (n : PlainNodes) (k : ℕ) (w : Bytes) → takes_word a n ≡ false → lettered (reached_by a n k) w ≡ None
takes_none awaited.Node n k w h = takes_no_node n.whole n.waiting w h
takes_none awaited.Bracket n k w h = refl
takes_none (awaited.Count c) n k w h = refl
takes_none awaited.Part n k w h = absurd cc
takes_none awaited.Colon n k w h = refl
takes_none awaited.Joint n k w h = refl

-- the letters of a word of a type, and those of a node's word that isn't there yet
pub led_part : {w : Bytes} {l : Bool} (n : PlainNodes) (Ls : PlainLevels) → n.whole ≡ None → AreWaiting n.waiting → TakesPart Ls →
    IsTrue (is_name_like w) →
    AreLed (lettered (reached_by awaited.Part n (length Ls.outer)) w) awaited.Part variant.Word w l n Ls
led_part n Ls none waiting fit like = record { at = refl; sound = record { waiting = waiting; unfinished = none; levels = fit; begun = like } }

lettered-at : (n : PlainNodes) (w : Bytes) (k : ℕ) → n.whole ≡ None →
    lettered (reached_by awaited.Node n k) w ≡ lettered (at (suc (extra n.waiting)) 0 awaited.Node) w
lettered-at n w k none = ap (λ o. lettered (at (needed_by o n.waiting) 0 awaited.Node) w) none

-- the word of a node
pub lettered-known : (n : PlainNodes) (k : ℕ) (w : Bytes) (x : NodeWord) → n.whole ≡ None → node_word w ≡ Some x →
    lettered (reached_by awaited.Node n k) w ≡ Some (spot (after_node (extra n.waiting) x) (nothing true))
lettered-known n k w x none e =
    lettered-at n w k none
    ∙ ap (λ o. if is_some o then behind true (after_known (extra n.waiting) o) else
    (if begins_node_word w then Some (spot (at (suc (extra n.waiting)) 0 awaited.Node) (letters w)) else None)) e

-- its beginning
pub led_beginning : {l : Bool} (n : PlainNodes) (Ls : PlainLevels) (w : Bytes) → n.whole ≡ None → AreWaiting n.waiting → node_word w ≡ None →
    begins_node_word w ≡ true →
    AreLed (lettered (reached_by awaited.Node n (length Ls.outer)) w) awaited.Node variant.Word w l n Ls
led_beginning n Ls w none waiting unknown begins = record {
  at = lettered-at n w (length Ls.outer) none
      ∙ (chosen_not (is_some (node_word w)) _ _ (ap is_some unknown) ∙ (chosen_so (begins_node_word w) _ _ begins
      ∙ ap (λ o. Some (spot (at (needed_by o n.waiting) 0 awaited.Node) (letters w))) (sym none)));
  sound = record { waiting = waiting; unfinished = tt; levels = tt; begun = (none, unknown) };
}

-- and what begins none
pub lettered-none : (n : PlainNodes) (k : ℕ) (w : Bytes) → n.whole ≡ None → node_word w ≡ None → begins_node_word w ≡ false →
    lettered (reached_by awaited.Node n k) w ≡ None
lettered-none n k w none unknown begins =
    lettered-at n w k none ∙ (chosen_not (is_some (node_word w)) _ _ (ap is_some unknown) ∙ chosen_not (begins_node_word w) _ _ begins)

-- digits of a number
pub begun_some : (t : Bool) (d v n k : ℕ) (c : Counted) → (if t then None else Some d) ≡ Some v →
    (if t then None else Some (spot (at n k (awaited.Count c)) (digits d))) ≡ Some (spot (at n k (awaited.Count c)) (digits v))
begun_some true d v n k c h = absurd cc
begun_some false d v n k c h = cc

pub begun_none : {X : Type 0} (t : Bool) (d : ℕ) (x : X) → (if t then None else Some d) ≡ None → (if t then None else Some x) ≡ None
begun_none true d x h = refl
begun_none false d x h = absurd cc

begun_is : (t : Bool) (d v : ℕ) → (if t then None else Some d) ≡ Some v → (t ≡ false) × (d ≡ v)
begun_is true d v h = absurd cc
begun_is false d v h = (refl, cc)

pub led_digits : {w : Bytes} {l : Bool} {v : ℕ} (t : Bool) (d : ℕ) (n : PlainNodes) (Ls : PlainLevels) (c : Counted) → n.whole ≡ None →
    AreWaiting n.waiting → (if t then None else Some d) ≡ Some v →
    AreLed (if t then None else Some (spot (at (extra n.waiting) 0 (awaited.Count c)) (digits d))) (awaited.Count c) (variant.Number v) w l n Ls
led_digits {v = v} t d n Ls c none waiting h =
    record { at = begun_some t d v (extra n.waiting) 0 c h; sound = record { waiting = waiting; unfinished = none; levels = tt; begun = tt } }

-- no number comes elsewhere
pub no_first_digit : (a : Awaited) (n : PlainNodes) (k d : ℕ) → ((c : Counted) → a ≡ awaited.Count c → ⊥) → first_digit (reached_by a n k) d ≡ None
no_first_digit awaited.Node n k d other = refl
no_first_digit awaited.Bracket n k d other = refl
no_first_digit (awaited.Count c) n k d other = absurd (other c refl)
no_first_digit awaited.Part n k d other = refl
no_first_digit awaited.Colon n k d other = refl
no_first_digit awaited.Joint n k d other = refl

pub no_next_digit : (a : Awaited) (n : PlainNodes) (k v d : ℕ) → ((c : Counted) → a ≡ awaited.Count c → ⊥) → next_digit (reached_by a n k) v d ≡ None
no_next_digit awaited.Node n k v d other = refl
no_next_digit awaited.Bracket n k v d other = refl
no_next_digit (awaited.Count c) n k v d other = absurd (other c refl)
no_next_digit awaited.Part n k v d other = refl
no_next_digit awaited.Colon n k v d other = refl
no_next_digit awaited.Joint n k v d other = refl

pub no_number : (a : Awaited) (n : PlainNodes) (k v : ℕ) → ((c : Counted) → a ≡ awaited.Count c → ⊥) → after (reached_by a n k) (number v) ≡ None
no_number awaited.Node n k v other = refl
no_number awaited.Bracket n k v other = refl
no_number (awaited.Count c) n k v other = absurd (other c refl)
no_number awaited.Part n k v other = refl
no_number awaited.Colon n k v other = refl
no_number awaited.Joint n k v other = refl

-- a text with the first digit, and with one more
pub digit_text : (text : Bytes) (b v : ℕ) → is_digit b ≡ true → b - 48 ≡ v → text ++ b ∷ [] ≡ text ++ decimal v
digit_text text b v digit e =
    let d = digit_value b digit in
    ap (λ x. text ++ x) (sym (ap decimal (sym e) ∙ (decimal_digit (b - 48) d.0 ∙ ap (λ x. x ∷ []) d.1)))

pub digits_text : (text done : Bytes) (b v m g : ℕ) → is_digit b ≡ true → text ≡ done ++ decimal v →
    ((v == 0) || not (nat_le (10 * v + (b - 48)) g)) ≡ false → 10 * v + (b - 48) ≡ m → g < 2 ^ 64 →
    text ++ b ∷ [] ≡ done ++ decimal m
digits_text text done b v m g digit is fits e small =
    let d = digit_value b digit in
    let w = digits_within v (10 * v + (b - 48)) g fits in
    ap (λ t. t ++ b ∷ []) is
    ∙ (append_assoc done (decimal v) (b ∷ [])
    ∙ ap (λ t. done ++ t) (sym (sym (ap decimal e) ∙ decimal_longer v (b - 48) b w.0 d.0 d.1 (omega (arith, w.1, small)))))

-- ---- signs
-- a byte that is none of the signs that may come
one_sign : (c : Reached) (b x : ℕ) (s : Sign) (o : Option Piece) → (b ≡ x → after c (sign s) ≡ None) → behind false (after_sign c o) ≡ None →
    behind false (after_sign c (if b == x then Some (sign s) else o)) ≡ None
one_sign c b x s o here other = by (b == x) refl where
  by : (t : Bool) → (b == x) ≡ t → behind false (after_sign c (if t then Some (sign s) else o)) ≡ None
  by true same = ap (behind false) (here (eqb-true b x same))
  by false same = other

no_dash : (c : Reached) (b : ℕ) (t : Bool) → (b == 45) ≡ t → (b ≡ 45 → dashed c ≡ None) → behind false (after_sign c (sign_of b)) ≡ None →
    (if t then dashed c else behind false (after_sign c (sign_of b))) ≡ None
no_dash c b true e hyphen other = hyphen (eqb-true b 45 e)
no_dash c b false e hyphen other = other

-- the bytes of signs
abbrev sign_byte : Sign → ℕ
sign_byte open_bracket = 91
sign_byte close_bracket = 93
sign_byte open_paren = 40
sign_byte close_paren = 41
sign_byte colon = 58
sign_byte arrow = 45
sign_byte ampersand = 38

pub signed-none : (c : Reached) (b : ℕ) → (b ≡ 45 → dashed c ≡ None) → ((s : Sign) → b ≡ sign_byte s → after c (sign s) ≡ None) → signed c b ≡ None
signed-none c b hyphen none =
    no_dash c b (b == 45) refl hyphen
    (one_sign c b 91 open_bracket _ (none open_bracket) (one_sign c b 93 close_bracket _ (none close_bracket)
    (one_sign c b 40 open_paren _ (none open_paren)
    (one_sign c b 41 close_paren _ (none close_paren) (one_sign c b 58 colon _ (none colon)
    (one_sign c b 38 ampersand None (none ampersand) refl))))))

pub no_bracket : (n k b : ℕ) → (b ≡ 91 → ⊥) → signed (at n k awaited.Bracket) b ≡ None
no_bracket n k b other = signed-none (at n k awaited.Bracket) b (λ e. refl) by where
  by : (s : Sign) → b ≡ sign_byte s → after (at n k awaited.Bracket) (sign s) ≡ None
  by open_bracket e = absurd (other e)
  by close_bracket e = refl
  by open_paren e = refl
  by close_paren e = refl
  by colon e = refl
  by arrow e = refl
  by ampersand e = refl

pub no_paren : (n k b : ℕ) → (b ≡ 40 → ⊥) → signed (at n k awaited.Part) b ≡ None
no_paren n k b other = signed-none (at n k awaited.Part) b (λ e. refl) by where
  by : (s : Sign) → b ≡ sign_byte s → after (at n k awaited.Part) (sign s) ≡ None
  by open_bracket e = refl
  by close_bracket e = refl
  by open_paren e = absurd (other e)
  by close_paren e = refl
  by colon e = refl
  by arrow e = refl
  by ampersand e = refl

pub no_colon : (n k b : ℕ) → (b ≡ 58 → ⊥) → signed (at n k awaited.Colon) b ≡ None
no_colon n k b other = signed-none (at n k awaited.Colon) b (λ e. refl) by where
  by : (s : Sign) → b ≡ sign_byte s → after (at n k awaited.Colon) (sign s) ≡ None
  by open_bracket e = refl
  by close_bracket e = refl
  by open_paren e = refl
  by close_paren e = refl
  by colon e = absurd (other e)
  by arrow e = refl
  by ampersand e = refl

pub no_joint : (n k b : ℕ) → (b ≡ 38 → ⊥) → (b ≡ 45 → ⊥) → (b ≡ 41 → ⊥) → (b ≡ 93 → ⊥) → signed (at n k awaited.Joint) b ≡ None
no_joint n k b no_and no_dash no_close no_end = signed-none (at n k awaited.Joint) b (λ e. absurd (no_dash e)) by where
  by : (s : Sign) → b ≡ sign_byte s → after (at n k awaited.Joint) (sign s) ≡ None
  by open_bracket e = refl
  by close_bracket e = absurd (no_end e)
  by open_paren e = refl
  by close_paren e = absurd (no_close e)
  by colon e = refl
  by arrow e = absurd (no_dash e)
  by ampersand e = absurd (no_and e)

pub no_sign_node : (n k b : ℕ) → signed (at n k awaited.Node) b ≡ None
no_sign_node n k b = signed-none (at n k awaited.Node) b (λ e. refl) (λ s e. refl)

pub no_sign_count : (n k b : ℕ) (c : Counted) → signed (at n k (awaited.Count c)) b ≡ None
no_sign_count n k b c = signed-none (at n k (awaited.Count c)) b (λ e. refl) (λ s e. refl)

-- the signs that come
pub led_open_bracket : {w : Bytes} (n : PlainNodes) (k : ℕ) → n.whole ≡ None → AreWaiting n.waiting →
    AreLed (signed (reached_by awaited.Bracket n k) 91) awaited.Part variant.Nothing w false n no_levels
led_open_bracket n k none waiting = record { at = refl; sound = record { waiting = waiting; unfinished = none; levels = first_room; begun = tt } }

pub led_paren : {w : Bytes} (n : PlainNodes) (Ls : PlainLevels) → n.whole ≡ None → AreWaiting n.waiting → TakesPart Ls →
    AreLed (signed (reached_by awaited.Part n (length Ls.outer)) 40) awaited.Part variant.Nothing w false n (with_open Ls)
led_paren n Ls none waiting fit = record { at = refl; sound = record { waiting = waiting; unfinished = none; levels = open_room Ls fit; begun = tt } }

pub led_colon : {w : Bytes} (n : PlainNodes) (Ls : PlainLevels) → n.whole ≡ None → AreWaiting n.waiting → TakesPart Ls →
    AreLed (signed (reached_by awaited.Colon n (length Ls.outer)) 58) awaited.Part variant.Nothing w false n Ls
led_colon n Ls none waiting fit = record { at = refl; sound = record { waiting = waiting; unfinished = none; levels = fit; begun = tt } }

pub led_ampersand : {w : Bytes} (n : PlainNodes) (Ls : PlainLevels) → n.whole ≡ None → AreWaiting n.waiting → TakesPart Ls →
    AreLed (signed (reached_by awaited.Joint n (length Ls.outer)) 38) awaited.Part variant.Nothing w false n Ls
led_ampersand n Ls none waiting fit = record { at = refl; sound = record { waiting = waiting; unfinished = none; levels = fit; begun = tt } }

pub led_dash : {w : Bytes} (n : PlainNodes) (Ls : PlainLevels) → n.whole ≡ None → AreWaiting n.waiting → TakesJoint Ls →
    AreLed (signed (reached_by awaited.Joint n (length Ls.outer)) 45) awaited.Joint variant.Dash w false n Ls
led_dash n Ls none waiting fit = record { at = refl; sound = record { waiting = waiting; unfinished = none; levels = fit; begun = refl } }

closed_spot : {w : Bytes} (n : PlainNodes) (outer : List PlainLevel) (M : PlainLevel) → 0 < length outer → AreWaiting n.waiting → n.whole ≡ None →
    TakesJoint (closed_by outer M) →
    AreLed (signed (reached_by awaited.Joint n (length outer)) 41) awaited.Joint variant.Nothing w false n (closed_by outer M)
closed_spot n [] M opens waiting none fit = absurd (omega (arith, opens))
closed_spot n (L ∷ outer) M opens waiting none fit =
    record { at = refl; sound = record { waiting = waiting; unfinished = none; levels = fit; begun = tt } }

pub led_close : {w : Bytes} (n : PlainNodes) (Ls : PlainLevels) → 0 < length Ls.outer → n.whole ≡ None → AreWaiting n.waiting → TakesJoint Ls →
    AreLed (signed (reached_by awaited.Joint n (length Ls.outer)) 41) awaited.Joint variant.Nothing w false n (with_closed Ls)
led_close n Ls opens none waiting fit = closed_spot n Ls.outer Ls.inner opens waiting none (close_joint Ls opens fit)

pub no_close : (n : PlainNodes) (k : ℕ) → k ≡ 0 → signed (reached_by awaited.Joint n k) 41 ≡ None
no_close n k e = ap (λ k. signed (reached_by awaited.Joint n k) 41) e

pub no_end : (n : PlainNodes) (k : ℕ) → 0 < k → signed (reached_by awaited.Joint n k) 93 ≡ None
no_end n zero opens = absurd (omega (arith, opens))
no_end n (suc k) opens = refl

pub led_end : {w : Bytes} (n : PlainNodes) (k : ℕ) (Ls : PlainLevels) (T : PlainType) → k ≡ 0 → n.whole ≡ None → AreWaiting n.waiting →
    AreLed (signed (reached_by awaited.Joint n k) 93) awaited.Node variant.Nothing w false (with_node (in_sub T) n) Ls
led_end {w = w} n k Ls T closed none waiting =
    subst (λ k. AreLed (signed (reached_by awaited.Joint n k) 93) awaited.Node variant.Nothing w false (with_node (in_sub T) n) Ls) (sym closed)
    (led_open (in_sub T) n Ls (suc (extra n.waiting)) none waiting (omega arith) (omega arith))

-- ---- answers
pub led_word : {a : Awaited} {w : Bytes} {l : Bool} {n : PlainNodes} {Ls : PlainLevels} {x y : NodeWord} (k : ℕ) → y ≡ x →
    AreLed (Some (spot (after_node k x) (nothing true))) a variant.Nothing w l n Ls →
    AreLed (Some (spot (after_node k y) (nothing true))) a variant.Nothing w l n Ls
led_word {a = a} {w = w} {l = l} {n = n} {Ls = Ls} k e h =
    subst (λ x. AreLed (Some (spot (after_node k x) (nothing true))) a variant.Nothing w l n Ls) (sym e) h

-- the word of a node, with what stands behind it
pub node_taken : {q j : ℕ} {names : List Bytes} {text : Bytes} {a b : Awaited} {n m : PlainNodes} {Ls : PlainLevels} {x y : NodeWord}
    (done : Bytes) → y ≡ x →
    a ≡ awaited.Node → text ≡ done ++ node_text y →
    Moves q j awaited.Node n Ls (word (node_text x)) b m Ls →
    ((ps : List Piece) → Stands names awaited.Node n Ls ps → Stands names b m Ls (ps ++ word (node_text x) ∷ [])) → Holds q names done false a n Ls →
    Holds j names text true b m Ls
node_taken {q = q} {names = names} {n = n} {Ls = Ls} {x = x} done same node is moves turn h =
    word_taken (node_text x) done (is ∙ ap (λ z. done ++ node_text z) same) moves turn (subst (λ a. Holds q names done false a n Ls) node h)
