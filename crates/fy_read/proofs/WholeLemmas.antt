-- The bytes of a text, read one by one.
use Rattle.std.proofs.Common.{◌≡◌, ℕ, suc, ◌+◌, ◌<◌, ◌≤◌, false, List, [], ◌∷◌, ◌++◌, length, take, drop, get_or, refl, ap, sym, ◌∙◌, subst, arith, drop-cons, length-append}
use Rattle.std.specs.Prelude.{Some, None}
use Rattle.std.proofs.lemmas.List.{take-append-drop, take_more, take_all, append-nil, length-take-le}
use Rattle.fy_base.specs.Outside.{Bytes}
use Rattle.fy_types.specs.Words.{is_name_byte}
use Rattle.fy_read.specs.declared.read.Reader.{Reader}
use Rattle.fy_read.specs.declared.stop.Stop.{Stop}
use Rattle.fy_read.specs.declared.stop.Stop.TheVariants.{Misfit, TooLarge, TooDeep, OutOfMemory}
use Rattle.fy_read.specs.Passing.{Passes, IsPlain, EndsDeep}
use Rattle.fy_read.specs.Readers.{spot_of, IsSound}
use Rattle.fy_read.specs.ReadSoFar.{IsRead}
use Rattle.fy_read.specs.Refusals.{Stops, IsStopOf, KeepsBefore, KeepsThroughout, IsBadText, IsTooDeepText, IsReadFault}
use Rattle.fy_read.specs.Steps.{Spot, start, step, steps, ended, finish}
use Rattle.fy_read.specs.Stopping.{error_at}
use Rattle.fy_read.proofs.ByteLemmas.{steps-append}
use Rattle.fy_read.proofs.CompletionLemmas.{begun_text, stops_here}
use Rattle.fy_read.proofs.FineLemmas.{AreFineSoFar, keeps_more, same_front, bad_text, too_large, too_deep}
use Rattle.fy_read.proofs.SoFarLemmas.{RoomBefore, IsBehindName, fine_so_far, deep_before}

pub led_more : (text : Bytes) (k : ℕ) (s t : Spot) → k < length text → steps (Some start) (take k text) ≡ Some s → step s (get_or text k 0) ≡ Some t →
    steps (Some start) (take (k + 1) text) ≡ Some t
led_more text k s t within led more =
    ap (steps (Some start)) (take_more text k 0 within)
    ∙ (steps-append (Some start) (take k text) (get_or text k 0 ∷ []) ∙ (ap (λ o. steps o (get_or text k 0 ∷ [])) led ∙ more))

pub read_more : {names : List Bytes} {r : Reader} (text : Bytes) (k : ℕ) → k < length text → IsRead names (take k text ++ get_or text k 0 ∷ []) r →
    IsRead names (take (k + 1) text) r
read_more {names = names} {r = r} text k within h = subst (λ t. IsRead names t r) (sym (take_more text k 0 within)) h

pub read_all : {names : List Bytes} {r : Reader} (text : Bytes) (k : ℕ) → length text ≤ k → IsRead names (take k text) r → IsRead names text r
read_all {names = names} {r = r} text k all h = subst (λ t. IsRead names t r) (take_all k text all) h

pub stop_at : (text : Bytes) (k : ℕ) (s : Spot) → k < length text → steps (Some start) (take k text) ≡ Some s → step s (get_or text k 0) ≡ None →
    IsStopOf text k
stop_at text k s within led stop = record {
  part = take k text;
  rest = drop k text;
  is = sym (take-append-drop k text);
  at = sym (length-take-le k text (omega (arith, within)));
  begins = begun_text (take k text) s led;
  stops = subst (Stops (take k text)) (sym (drop-cons text k 0 within)) (stops_here (take k text) (get_or text k 0 ∷ drop (suc k) text) s led stop);
}

pub stop_at_end : (text : Bytes) (k : ℕ) (s : Spot) → length text ≤ k → steps (Some start) (take k text) ≡ Some s → (ended s ≡ Some finish → ⊥) →
    IsStopOf text (length text)
stop_at_end text k s all led stop =
    let whole : steps (Some start) text ≡ Some s = ap (steps (Some start)) (sym (take_all k text all)) ∙ led in
    record {
      part = text;
      rest = [];
      is = sym
          (append-nil text);
      at = refl;
      begins = begun_text text s whole;
      stops = stops_here text [] s whole stop;
    }

-- ---- limits
pub keep_on : (text : Bytes) (k : ℕ) → k < length text → KeepsBefore text k → AreFineSoFar (take k text) (drop k text) → KeepsBefore text (k + 1)
keep_on text k within before fine =
    let long : length (take k text) ≡ k = length-take-le k text (omega (arith, within)) in
    subst (λ n. KeepsBefore text (n + 1)) long
    (keeps_more text (take k text) (drop k text) (sym (take-append-drop k text)) (subst (KeepsBefore text) (sym long) before) fine)

bad_at : (text : Bytes) (k : ℕ) → k ≤ length text → IsStopOf text k → KeepsBefore text k → AreFineSoFar (take k text) (drop k text) → IsBadText text k
bad_at text k within stop before fine =
    bad_text text k stop
    (λ part rest is at.
    let t = same_front (take k text) part (drop k text) rest (take-append-drop k text ∙ is) (length-take-le k text within ∙ at) in
    subst (λ rest. AreFineSoFar part rest) t.1 (subst (λ part. AreFineSoFar part (drop k text)) t.0 fine))
    before

-- the text up to and with the byte
upto : (text : Bytes) (k : ℕ) → k < length text → text ≡ (take k text ++ get_or text k 0 ∷ []) ++ drop (k + 1) text
upto text k within = sym (take-append-drop (k + 1) text) ∙ ap (λ t. t ++ drop (k + 1) text) (take_more text k 0 within)

upto-long : (text : Bytes) (k : ℕ) → k < length text → k + 1 ≡ length (take k text ++ get_or text k 0 ∷ [])
upto-long text k within = sym (ap length (sym (take_more text k 0 within)) ∙ length-take-le (k + 1) text (omega (arith, within)))

-- the fault where a byte stops the reader
pub fault_at : (text : Bytes) (k : ℕ) (e : Stop) → k < length text → (e ≡ Misfit → IsStopOf text k) → Passes (take k text ++ get_or text k 0 ∷ []) e →
    AreFineSoFar (take k text) (drop k text) → KeepsBefore text k → IsReadFault text (error_at e k)
fault_at text k Misfit within stop passes fine before = bad_at text k (omega (arith, within)) (stop refl) before fine
fault_at text k TooLarge within stop passes fine before =
    too_large text (take k text ++ get_or text k 0 ∷ []) (drop (k + 1) text) (upto text k within) passes
    (subst (KeepsBefore text) (upto-long text k within) (keep_on text k within before fine))
fault_at text k TooDeep within stop passes fine before =
    too_deep text (take k text ++ get_or text k 0 ∷ []) (drop (k + 1) text) (upto text k within) (passes.0 (drop (k + 1) text)) passes.1
    (subst (KeepsBefore text) (upto-long text k within) (keep_on text k within before fine))
fault_at text k OutOfMemory within stop passes fine before = tt

-- where the name of a field ends whose part would be too deep
pub deep_at : {names : List Bytes} {r : Reader} (text : Bytes) (k : ℕ) → k < length text → IsSound r → IsRead names (take k text) r → EndsDeep r →
    is_name_byte (get_or text k 0) ≡ false → KeepsBefore text k → IsTooDeepText text
deep_at text k within sound read deep behind before =
    let rest = drop k text in
    let t = deep_before (take k text) rest sound read deep (subst IsBehindName (sym (drop-cons text k 0 within)) behind) in
    too_deep text (take k text) rest (sym (take-append-drop k text)) t.0 t.1
    (subst (KeepsBefore text) (sym (length-take-le k text (omega (arith, within)))) before)

-- what was read before the byte
pub fine_at : {names : List Bytes} {r : Reader} (text : Bytes) (k : ℕ) → k < length text → IsSound r → IsRead names (take k text) r →
    steps (Some start) (take k text) ≡ Some (spot_of r) → (is_name_byte (get_or text k 0) ≡ false → ¬ EndsDeep r) →
    AreFineSoFar (take k text) (drop k text)
fine_at {r = r} text k within sound read led room =
    fine_so_far (take k text) (drop k text) sound read led (subst (λ rest. RoomBefore rest r) (sym (drop-cons text k 0 within)) room)

-- ---- the end of the text
short_front : {text : Bytes} (part rest : Bytes) → text ≡ part ++ rest → length part < length text + 1
short_front part rest is = omega (arith, ap length is ∙ length-append part rest)

pub keeps_throughout : {names : List Bytes} {r : Reader} (text : Bytes) → IsSound r → IsRead names text r →
    steps (Some start) text ≡ Some (spot_of r) → ¬ EndsDeep r → KeepsBefore text (length text) → KeepsThroughout text
keeps_throughout text sound read led room before =
    let all = keeps_more text text [] (sym (append-nil text)) before (fine_so_far text [] sound read led room) in
    record {
      size = λ part rest is. all.size part rest is (short_front part rest is);
      depth = λ part rest is. all.depth part rest is (short_front part rest is);
    }

pub keeps_all : (text : Bytes) (k : ℕ) → length text ≤ k → KeepsBefore text k → KeepsBefore text (length text)
keeps_all text k all before = record {
  size = λ part rest is less. before.size part rest is (omega (arith, less, all));
  depth = λ part rest is less. before.depth part rest is (omega (arith, less, all));
}

pub led_all : (text : Bytes) (k : ℕ) (s : Spot) → length text ≤ k → steps (Some start) (take k text) ≡ Some s → steps (Some start) text ≡ Some s
led_all text k s all led = ap (steps (Some start)) (sym (take_all k text all)) ∙ led

pub fault_at_end : {names : List Bytes} {r : Reader} (text : Bytes) (e : Stop) → (e ≡ Misfit → IsStopOf text (length text)) → IsPlain e → IsSound r →
    IsRead names text r → steps (Some start) text ≡ Some (spot_of r) → ¬ EndsDeep r → KeepsBefore text (length text) →
    IsReadFault text (error_at e (length text))
fault_at_end text Misfit stop plain sound read led room before =
    bad_text text (length text) (stop refl)
    (λ part rest is at.
    let t = same_front text part [] rest (append-nil text ∙ is) at in
    subst (λ rest. AreFineSoFar part rest) t.1 (subst (λ part. AreFineSoFar part []) t.0 (fine_so_far text [] sound read led room)))
    before
fault_at_end text TooLarge stop plain sound read led room before = absurd plain
fault_at_end text TooDeep stop plain sound read led room before = absurd plain
fault_at_end text OutOfMemory stop plain sound read led room before = tt

pub deep_at_end : {names : List Bytes} {r : Reader} (text : Bytes) → IsSound r → IsRead names text r → EndsDeep r → KeepsBefore text (length text) →
    IsTooDeepText text
deep_at_end text sound read deep before =
    let t = deep_before text [] sound read deep tt in too_deep text text [] (sym (append-nil text)) t.0 t.1 before
