-- Runs of code that hands constants as data, by those of the code that hands thunks.
use Rattle.std.proofs.Common.{ℕ, zero, suc, ◌+◌, ◌-◌, ◌*◌, ◌≤◌, ◌≡◌, ◌≢◌, List, [], ◌∷◌, ◌++◌, drop, Option, slice_get, refl, sym, ap, ap₂, ◌∙◌, subst, arith, append-nil, append_assoc}
use Rattle.fy_base.specs.declared.data.Datum.{Datum}
use Rattle.fy_base.specs.Outside.{Bytes}
use Rattle.fy_phrase.specs.Copy.{CopyState}
use Rattle.pe_code.specs.declared.code.PeCode.{PeCode}
use Rattle.pe_machine.specs.States.{Focus, code_at, value, completed, Held, PeState}
use Rattle.pe_machine.specs.Step.{PeMove, goes, puts, takes, faults, sticks, loses, answered, completion_meets, step_at, pe_step}
use Rattle.pe_machine.specs.Run.{Standing, going, ended, faulted, stuck, gone, standing_at, standing_of, PeRun, settled, ticked, tick, after_more, start_run, pe_after}
use Rattle.pe_machine.proofs.RunLemmas.{after_zero, after_suc, after_both}
use Rattle.pe_right.specs.Entered.{every}
use Rattle.pe_right.specs.Ahead.{IsAheadOf, frames_made, KeepsAhead}
use Rattle.pe_right.specs.Direct.{IsDirectOf}
use Rattle.pe_right.specs.Follows.{FollowsCopyRule}
use Rattle.pe_right.proofs.Invariants.{Compiled, Follows}
use Rattle.pe_right.proofs.Swapping.{swap_held, swap_state, swap_move}
use Rattle.pe_right.proofs.CodeEvaluating.{CodeSteps, stays, steps}
use Rattle.pe_right.proofs.FrameCounts.{HasMade, made-step}
use Rattle.pe_right.proofs.Handing.{cv, Hands, locked, lost, stopped, evaluates, step-hands}
use Rattle.pe_right.proofs.RunLemmas.{follows, simulated}

-- ---- runs of the machine

after_one : (code : PeCode) (r : PeRun) → after_more code 1 r ≡ tick code r
after_one code r = after_suc code 0 r ∙ ap (λ (x : PeRun). tick code x) (after_zero code r)

after_first : (code : PeCode) (n : ℕ) (r : PeRun) → after_more code (suc n) r ≡ after_more code n (tick code r)
after_first code n r =
    let e : suc n ≡ 1 + n = omega arith in
    ap (λ (m : ℕ). after_more code m r) e ∙ after_both code 1 n r ∙ ap (λ (x : PeRun). after_more code n x) (after_one code r)

-- a run that is over stays
tick-over : (code : PeCode) (st : Standing) (r : PeRun) → st ≢ going → ticked code st r ≡ r
tick-over code going r apart = absurd (apart refl)
tick-over code ended r apart = refl
tick-over code (faulted kind at) r apart = refl
tick-over code stuck r apart = refl
tick-over code gone r apart = refl

over-stays : (code : PeCode) (n : ℕ) (r : PeRun) → r.standing ≢ going → after_more code n r ≡ r
over-stays code zero r apart = after_zero code r
over-stays code (suc n) r apart =
    after_suc code n r ∙ ap (λ (x : PeRun). tick code x) (over-stays code n r apart) ∙ tick-over code r.standing r apart

-- what a run has put and made is kept
record Grows (r t : PeRun) : Type 0 where
  more : Bytes
  output : t.output ≡ r.output ++ more
  frames : r.state.next ≤ t.state.next

grows-itself : (r : PeRun) → Grows r r
grows-itself r = record { more = []; output = sym (append-nil r.output); frames = omega arith }

settled-grows : (m : PeMove) (r : PeRun) → HasMade r.state.next m → Grows r (settled m r)
settled-grows (goes s) r h = record { more = []; output = sym (append-nil r.output); frames = h }
settled-grows (puts text s) r h = record { more = text; output = refl; frames = h }
settled-grows (takes go) r h = record { more = []; output = sym (append-nil r.output); frames = h (slice_get r.input 0) }
settled-grows (faults kind at) r h = record { more = []; output = sym (append-nil r.output); frames = omega arith }
settled-grows sticks r h = record { more = []; output = sym (append-nil r.output); frames = omega arith }
settled-grows loses r h = record { more = []; output = sym (append-nil r.output); frames = omega arith }

ticked-grows : (code : PeCode) (st : Standing) (r : PeRun) → Grows r (ticked code st r)
ticked-grows code going r = settled-grows (pe_step code r.state) r (made-step code r.state)
ticked-grows code ended r = grows-itself r
ticked-grows code (faulted kind at) r = grows-itself r
ticked-grows code stuck r = grows-itself r
ticked-grows code gone r = grows-itself r

after-grows : (code : PeCode) (n : ℕ) (r : PeRun) → Grows r (after_more code n r)
after-grows code zero r = subst (λ (t : PeRun). Grows r t) (sym (after_zero code r)) (grows-itself r)
after-grows code (suc n) r =
    let x = after-grows code n r in
    let t = after_more code n r in
    let y = ticked-grows code t.standing t in
    subst (λ (u : PeRun). Grows r u) (sym (after_suc code n r)) (record {
      more = x.more ++ y.more;
      output = y.output ∙ ap (λ (o : Bytes). o ++ y.more) x.output ∙ append_assoc r.output x.more y.more;
      frames = (let a = x.frames in let b = y.frames in omega arith);
    })

-- a run after more steps
later-grows : (code : PeCode) (n m : ℕ) (r : PeRun) → n ≤ m → Grows (after_more code n r) (after_more code m r)
later-grows code n m r le =
    let e : m ≡ n + (m - n) = omega arith in
    subst (λ (t : PeRun). Grows (after_more code n r) t) (sym (ap (λ (k : ℕ). after_more code k r) e ∙ after_both code n (m - n) r)) (after-grows code (m - n) (after_more code n r))

later-over : (code : PeCode) (n m : ℕ) (r : PeRun) → n ≤ m → (after_more code n r).standing ≢ going → after_more code m r ≡ after_more code n r
later-over code n m r le apart =
    let e : m ≡ n + (m - n) = omega arith in
    ap (λ (k : ℕ). after_more code k r) e ∙ after_both code n (m - n) r ∙ over-stays code (m - n) (after_more code n r) apart

-- a state that a step leads on from goes on
goes-on : (code : PeCode) (f : Focus) (cs : List Held) (s t : PeState) → s.contexts ≡ cs → step_at code f s ≡ goes t → standing_at f cs ≡ going
goes-on code (code_at p) cs s t e h = refl
goes-on code (value v) cs s t e h = refl
goes-on code completed (c ∷ cs) s t e h = refl
goes-on code completed [] s t e h = absurd (none (sym (ap (λ (hs : List Held). answered completion_meets hs s) e) ∙ h))
  where
    none : sticks ≡ goes t → ⊥
    none x = cc

-- steps that neither put nor take
through : {code : PeCode} {n : ℕ} {s t : PeState} → CodeSteps code n s t → (r : PeRun) → r.state ≡ s → r.standing ≡ standing_of s →
    after_more code n r ≡ record r { state = t; standing = standing_of t }
through {code = code} {s = s} stays r e f = after_zero code r ∙ ap₂ (λ (x : PeState) (y : Standing). record r { state = x; standing = y }) e f
through {code = code} (steps {j = j} {s = s} {t = t} h more) r e f =
    let up : r.standing ≡ going = f ∙ goes-on code s.focus s.contexts s t refl h in
    let next : PeRun = record r { state = t; standing = standing_of t } in
    let one : tick code r ≡ next = ap (λ (st : Standing). ticked code st r) up ∙ ap (λ (x : PeState). settled (pe_step code x) r) e ∙ ap (λ (m : PeMove). settled m r) h in
    after_first code j r ∙ ap (λ (x : PeRun). after_more code j x) one ∙ through more next refl refl

module _ (known : ℕ → Option Datum) where
  -- the run with thunks of constants as data
  abbrev swap_run : PeRun → PeRun
  swap_run r = record r { state = swap_state known r.state }

  standing-swap : (f : Focus) (cs : List Held) → standing_at f (swap_held known cs) ≡ standing_at f cs
  standing-swap completed [] = refl
  standing-swap completed (c ∷ cs) = refl
  standing-swap (code_at p) cs = refl
  standing-swap (value v) cs = refl

  settled-swap : (m : PeMove) (r : PeRun) → settled (swap_move known m) (swap_run r) ≡ swap_run (settled m r)
  settled-swap (goes s) r = ap (λ (st : Standing). record r { state = swap_state known s; standing = st }) (standing-swap s.focus s.contexts)
  settled-swap (puts text s) r = ap (λ (st : Standing). record r { state = swap_state known s; output = r.output ++ text; standing = st }) (standing-swap s.focus s.contexts)
  settled-swap (takes go) r =
      let s = go (slice_get r.input 0) in
      ap (λ (st : Standing). record { state = swap_state known s; input = drop 1 r.input; output = r.output; standing = st }) (standing-swap s.focus s.contexts)
  settled-swap (faults kind at) r = refl
  settled-swap sticks r = refl
  settled-swap loses r = refl

module _ (g : Compiled) (made : PeCode) (direct : IsDirectOf g.phrase g.code made) (by_each : (k : ℕ) → g.straight k ≡ every) where
  abbrev Known : ℕ → Option Datum
  Known k = cv g made direct by_each k

  -- one step of the code that hands data is some steps of the other
  record Covers (n : PeRun) (r : PeRun) : Type 0 where
    count : ℕ
    some : 1 ≤ count
    few : count ≤ 16
    same : n ≡ swap_run Known (after_more g.code count r)

  covers-over : (st : Standing) (r : PeRun) → r.standing ≡ st → st ≢ going → Covers (ticked made st (swap_run Known r)) r
  covers-over st r e apart = record {
    count = 1;
    some = omega arith;
    few = omega arith;
    same = tick-over made st (swap_run Known r) apart ∙ ap (λ (x : PeRun). swap_run Known x) (sym (over-stays g.code 1 r (λ f. apart (sym e ∙ f))));
  }

  covers-going : (k : ℕ) (r : PeRun) (c : CopyState) → r.standing ≡ going → Follows g k r.state c → (tick g.code r).standing ≢ gone → (tick g.code r).standing ≢ stuck →
      Covers (settled (pe_step made (swap_state Known r.state)) (swap_run Known r)) r
  covers-going k r c up t here moves = by (step-hands g made direct by_each k r.state c t)
    where
      now : {m : PeMove} → pe_step g.code r.state ≡ m → tick g.code r ≡ settled m r
      now e = ap (λ (st : Standing). ticked g.code st r) up ∙ ap (λ (m : PeMove). settled m r) e

      by : Hands g made direct by_each (pe_step made (swap_state Known r.state)) (pe_step g.code r.state) → Covers (settled (pe_step made (swap_state Known r.state)) (swap_run Known r)) r
      by (locked e) = record {
        count = 1;
        some = omega arith;
        few = omega arith;
        same = ap (λ (m : PeMove). settled m (swap_run Known r)) e ∙ settled-swap Known (pe_step g.code r.state) r
            ∙ ap (λ (x : PeRun). swap_run Known x) (sym (after_one g.code r ∙ now refl));
      }
      by (lost e) = absurd (here (ap (λ (x : PeRun). x.standing) (now e)))
      by (stopped e) = absurd (moves (ap (λ (x : PeRun). x.standing) (now e)))
      by (evaluates {s = s} {t = u} {j = j} few e path f) =
          let next : PeRun = record r { state = s; standing = standing_of s } in
          let last : PeRun = record r { state = u; standing = standing_of u } in
          record {
            count = suc j;
            some = omega arith;
            few = few;
            same = ap (λ (m : PeMove). settled m (swap_run Known r)) f ∙ settled-swap Known (goes u) r
                ∙ ap (λ (x : PeRun). swap_run Known x) (sym (after_first g.code j r ∙ ap (λ (x : PeRun). after_more g.code j x) (now e) ∙ through path next refl refl));
          }

  covers : (st : Standing) (r : PeRun) → r.standing ≡ st → (r.standing ≡ going → (k : ℕ) × (c : CopyState) × Follows g k r.state c) → (tick g.code r).standing ≢ gone → (tick g.code r).standing ≢ stuck →
      Covers (ticked made st (swap_run Known r)) r
  covers going r e t here moves = let x = t e in covers-going x.0 r x.1 e x.2 here moves
  covers ended r e t here moves = covers-over _ r e (λ f. cc)
  covers (faulted kind at) r e t here moves = covers-over _ r e (λ f. cc)
  covers stuck r e t here moves = covers-over _ r e (λ f. cc)
  covers gone r e t here moves = covers-over _ r e (λ f. cc)

  -- after n steps
  record Matched (input : Bytes) (n : ℕ) : Type 0 where
    count : ℕ
    some : n ≤ count
    few : count ≤ 16 * n
    same : pe_after made input n ≡ swap_run Known (pe_after g.code input count)

  matched : (input : Bytes) (n : ℕ) → Matched input n
  matched input zero = record {
    count = 0;
    some = omega arith;
    few = omega arith;
    same = after_zero made (start_run input) ∙ ap (λ (x : PeRun). swap_run Known x) (sym (after_zero g.code (start_run input)));
  }
  matched input (suc n) =
      let h = matched input n in
      let r = pe_after g.code input h.count in
      let t : r.standing ≡ going → (k : ℕ) × (c : CopyState) × Follows g k r.state c = simulated g input h.count in
      let one : pe_after g.code input (suc h.count) ≡ tick g.code r = after_suc g.code h.count (start_run input) in
      let f : FollowsCopyRule g.handed g.phrase g.code = follows g in
      let x : Covers (ticked made r.standing (swap_run Known r)) r =
      covers r.standing r refl t (λ e. f.never_gone input (suc h.count) (ap (λ (y : PeRun). y.standing) one ∙ e))
      (λ e. f.never_stuck input (suc h.count) (ap (λ (y : PeRun). y.standing) one ∙ e)) in
      record {
        count = h.count + x.count;
        some = (let a = h.some in let b = x.some in omega arith);
        few = (let a = h.few in let b = x.few in omega arith);
        same = after_suc made n (start_run input) ∙ ap (λ (y : PeRun). tick made y) h.same ∙ x.same
            ∙ ap (λ (y : PeRun). swap_run Known y) (sym (after_both g.code h.count x.count (start_run input)));
      }

  is-ahead : (input : Bytes) (n : ℕ) → Matched input n → IsAheadOf (pe_after made input n) (pe_after g.code input n)
  is-ahead input n h =
      let start = start_run input in
      let x = later-grows g.code n h.count start h.some in
      record {
        more = x.more;
        output = ap (λ (y : PeRun). y.output) h.same ∙ x.output;
        over = λ apart.
            let e = h.same ∙ ap (λ (y : PeRun). swap_run Known y) (later-over g.code n h.count start h.some apart) in
            (ap (λ (y : PeRun). y.standing) e, ap (λ (y : PeRun). y.output) e, ap (λ (y : PeRun). y.input) e);
      }

  few-frames : (input : Bytes) (n : ℕ) → Matched input n → frames_made (pe_after made input n) ≤ frames_made (pe_after g.code input (16 * n))
  few-frames input n h =
      let x = later-grows g.code h.count (16 * n) (start_run input) h.few in
      let e : frames_made (pe_after made input n) ≡ frames_made (pe_after g.code input h.count) = ap (λ (y : PeRun). frames_made y) h.same in
      (let l = x.frames in omega arith)

  pub keeps-ahead : KeepsAhead g.code made
  keeps-ahead = record { ahead = λ input n. is-ahead input n (matched input n); frames = λ input n. few-frames input n (matched input n) }
