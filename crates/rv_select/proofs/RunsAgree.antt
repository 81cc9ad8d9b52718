-- What the word machine has done, the run of items has done; and it comes to where that is.
use Rattle.std.proofs.Common.{◌≡◌, ◌≢◌, ℕ, zero, suc, ◌+◌, ◌-◌, ◌*◌, ◌<◌, ◌≤◌, ◌⊎◌, refl, sym, ap, ◌∙◌, subst, inl, inr, arith}
use Rattle.std.proofs.lemmas.Bool.{cases_lt, cases_Bool, cond-true, cond-false}
use Rattle.std.specs.Prelude.{nat_eq}
use Rattle.fy_base.specs.Outside.{Bytes, IsPrefix}
use Rattle.fy_runs.proofs.Outer.{prefix_all, prefix_more}
use Rattle.rv_insn.specs.declared.events.Event.TheVariants as event
use Rattle.pe_code.specs.declared.code.PeCode.{PeCode}
use Rattle.pe_machine.specs.States.{Focus, code_at, value, completed}
use Rattle.pe_machine.specs.Run.{Standing, going, ended, faulted, stuck}
use Rattle.pe_items.specs.Items.{address_on}
use Rattle.pe_items.specs.Run.{standing_at, ItemRun, tick, after_more}
use Rattle.rv_word.specs.Word.{Data, Code, State, Led, goes, hangs, stops, wrong, after_step, led_on}
use Rattle.rv_word.specs.Laws.{output_of, IsRight}
use Rattle.rv_select.specs.Program.{word_code}
use Rattle.rv_select.specs.Laws.{IsSelectable, deepest, IsSameAs, StandsAs}
use Rattle.rv_select.proofs.Runs.{spent_on, spent_none, none_on, runs_split, spent_split, stopped_stays, Reach}
use Rattle.rv_select.proofs.SelectedCode.{IsSelected}
use Rattle.rv_select.proofs.ItemSteps.{Helpers, step_cost}
use Rattle.rv_select.proofs.Placed.{selected}
use Rattle.rv_select.proofs.ItemRuns.{none_more, first_more, both_more, run_stays, run_grows, stuck_later}
use Rattle.rv_select.proofs.Both.{Tracks, Lands, lands_on, runs_out, is_told, is_lost, HasEnded, ends_so, goes_so}

-- a run that has a state is going or has ended
two_standings : (f : Focus) (newest : ℕ) → (standing_at f newest ≡ going) ⊎ (standing_at f newest ≡ ended)
two_standings (code_at p) newest = inl refl
two_standings (value v) newest = inl refl
two_standings completed newest = elim (cases_Bool (nat_eq newest 0)) [
  | inl yes' ↦ inr (cond-true (nat_eq newest 0) ended going yes')
  | inr no' ↦ inl (cond-false (nat_eq newest 0) ended going no')
]

hung_stays : (code : Code) (n : ℕ) (e : Data) → led_on code n (hangs e) ≡ hangs e
unfolding led_on
hung_stays code zero e = refl
hung_stays code (suc n) e = ap (after_step code) (hung_stays code n e)

wrong_stays : (code : Code) (n : ℕ) → led_on code n wrong ≡ wrong
unfolding led_on
wrong_stays code zero = refl
wrong_stays code (suc n) = ap (after_step code) (wrong_stays code n)

-- ---- on the way

-- before so many steps led somewhere, what was put out is a beginning of that there; or it is there already
pub data OnWay (now there : Led) : Type 0 where
  still : (u : State) → now ≡ goes u → IsPrefix (output_of now) (output_of there) → OnWay now there
  already : now ≡ there → OnWay now there

pub on_way : (help : Helpers) (w : Code) (n m : ℕ) (s : State) (there : Led) → led_on w (n + m) (goes s) ≡ there → IsRight there → OnWay (led_on w n (goes s)) there
on_way help w n m s there is right =
    by (led_on w n (goes s)) refl
  where
    prefix : IsPrefix (output_of (led_on w n (goes s))) (output_of there)
    prefix = subst (λ (r : Led). IsPrefix (output_of (led_on w n (goes s))) (output_of r)) is (help.grows w n m s (subst IsRight (sym is) right))

    by : (now : Led) → led_on w n (goes s) ≡ now → OnWay (led_on w n (goes s)) there
    by (goes u) e = still u e prefix
    by (hangs d) e = already (e ∙ sym (hung_stays w m d) ∙ ap (led_on w m) (sym e) ∙ sym (runs_split w n m (goes s)) ∙ is)
    by (stops how d) e = already (e ∙ sym (stopped_stays w m how d) ∙ ap (led_on w m) (sym e) ∙ sym (runs_split w n m (goes s)) ∙ is)
    by wrong e = already (e ∙ sym (wrong_stays w m) ∙ ap (led_on w m) (sym e) ∙ sym (runs_split w n m (goes s)) ∙ is)

-- ---- both directions, from any state of a run

module _ (code : PeCode) (help : Helpers) (ok : IsSelectable code) (size : ℕ) where
  sel : IsSelected code (word_code code)
  sel = selected code ok.valid

  -- some state within k steps from a run has too many words
  pub record Passes (r : ItemRun) (k : ℕ) : Type 0 where
    pub step : ℕ
    pub is_within : step ≤ k
    pub past : size < address_on (after_more code step r).state.items

  one_passes : (r : ItemRun) (k : ℕ) → size < address_on (tick code r).state.items → Passes r (suc k)
  one_passes r k lt =
      let one : after_more code 1 r ≡ tick code r = first_more code 0 r ∙ none_more code (tick code r) in
      record { step = 1; is_within = omega arith; past = subst (λ (q : ItemRun). size < address_on q.state.items) (sym one) lt }

  passes_before : (r : ItemRun) (k : ℕ) → Passes (tick code r) k → Passes r (suc k)
  passes_before r k h = record {
    step = suc h.step;
    is_within = (let le = h.is_within in omega arith);
    past = subst (λ (q : ItemRun). size < address_on q.state.items) (sym (first_more code h.step r)) h.past;
  }

  -- ---- forth

  pub record Comes (r : ItemRun) (k : ℕ) (t : State) (q : ItemRun) : Type 0 where
    pub count : ℕ
    pub cost : spent_on (word_code code) count (goes t) ≤ k * step_cost (deepest code.items) + 60
    pub is : StandsAs q.standing q (led_on (word_code code) count (goes t)) ⊎ ((e : Data) × (led_on (word_code code) count (goes t) ≡ stops event.Exhausted e) × Passes r k)

  comes_ended : (r : ItemRun) (k : ℕ) (t : State) → Tracks code (word_code code) size r t → r.standing ≡ ended → Comes r k t r
  comes_ended r k t tracks e =
      let h = ends_so code (word_code code) size r t tracks sel e in
      record {
        count = h.count;
        cost = (let c = h.cost in omega arith);
        is = inl (subst (λ (z : Standing). StandsAs z r (led_on (word_code code) h.count (goes t))) (sym e) (h.is.held, h.is.is, h.is.same));
      }

  comes_on : (r : ItemRun) (k : ℕ) (t : State) (h : Reach (word_code code) (Lands code (word_code code) size (tick code r)) (step_cost (deepest code.items)) t)
      → ((u : State) → Tracks code (word_code code) size (tick code r) u → Comes (tick code r) k u (after_more code k (tick code r))) → (after_more code k (tick code r)).standing ≢ stuck
      → Comes r (suc k) t (after_more code k (tick code r))
  comes_on r k t h further free =
      by h.is
    where
      q : ItemRun
      q = after_more code k (tick code r)

      by : Lands code (word_code code) size (tick code r) (led_on (word_code code) h.count (goes t)) → Comes r (suc k) t (after_more code k (tick code r))
      by (lands_on u e tracks) =
          let ih = further u tracks in
          let all = runs_split (word_code code) h.count ih.count (goes t) ∙ ap (led_on (word_code code) ih.count) e in
          let sum = spent_split (word_code code) h.count ih.count (goes t) in
          let rest = ap (spent_on (word_code code) ih.count) e in
          let here = h.cost in
          let there = ih.cost in
          record {
            count = h.count + ih.count;
            cost = omega arith;
            is = elim ih.is [
              | inl stands ↦ inl (subst (λ (l : Led). StandsAs (after_more code k (tick code r)).standing (after_more code k (tick code r)) l) (sym all) stands)
              | inr out ↦ inr (out.0, all ∙ out.1, passes_before r k out.2)
            ];
          }
      by (runs_out e is same past) = record { count = h.count; cost = (let c = h.cost in omega arith); is = inr (e, is, one_passes r k past) }
      by (is_told kind at e is told same) =
          let stays = run_stays code k (tick code r) (λ g. let z : faulted kind at ≡ going = sym told ∙ g in cc) in
          subst (Comes r (suc k) t) (sym stays) (record {
            count = h.count;
            cost = (let c = h.cost in omega arith);
            is = inl (subst (λ (z : Standing). StandsAs z (tick code r) (led_on (word_code code) h.count (goes t))) (sym told) (e, is, same));
          })
      by (is_lost lost) = absurd (stuck_later code k (tick code r) free lost)

  pub forth : (k : ℕ) (r : ItemRun) (t : State) → Tracks code (word_code code) size r t → (after_more code k r).standing ≢ stuck → Comes r k t (after_more code k r)
  forth zero r t tracks free =
      subst (Comes r 0 t) (sym (none_more code r))
      (elim (two_standings r.state.focus r.state.newest) [
        | inl on ↦ record {
          count = 0;
          cost = (let none = spent_none (word_code code) (goes t) in omega arith);
          is = inl (subst (λ (z : Standing). StandsAs z r (led_on (word_code code) 0 (goes t))) (sym (tracks.standing ∙ on)) (t, none_on (word_code code) (goes t), tracks.same));
        }
        | inr end ↦ comes_ended r 0 t tracks (tracks.standing ∙ end)
      ])
  forth (suc k) r t tracks free =
      elim (two_standings r.state.focus r.state.newest) [
        | inl on ↦
            subst (Comes r (suc k) t) (sym (first_more code k r))
            (comes_on r k t (goes_so code (word_code code) size r t tracks sel help ok (tracks.standing ∙ on)) (λ u h. forth k (tick code r) u h (λ e. free (ap (λ (q : ItemRun). q.standing) (first_more code k r) ∙ e)))
            (λ e. free (ap (λ (q : ItemRun). q.standing) (first_more code k r) ∙ e)))
        | inr end ↦
            subst (Comes r (suc k) t) (sym (run_stays code (suc k) r (λ g. let z : ended ≡ going = sym (tracks.standing ∙ end) ∙ g in cc))) (comes_ended r (suc k) t tracks (tracks.standing ∙ end))
      ]

  -- ---- back

  abbrev pub IsEnd : ItemRun → ℕ → Led → Type 0
  IsEnd r k (goes s) = Unit {0}
  IsEnd r k (hangs e) = ⊥
  IsEnd r k (stops event.Ended e) = ((after_more code k r).standing ≡ ended) × IsSameAs (after_more code k r) e
  IsEnd r k (stops (event.Fault kind at) e) = ((after_more code k r).standing ≡ faulted kind at) × IsSameAs (after_more code k r) e
  IsEnd r k (stops event.Exhausted e) = Passes r k
  IsEnd r k (stops _ e) = ⊥
  IsEnd r k wrong = ⊥

  -- within k steps from a run
  pub record Behind (r : ItemRun) (k : ℕ) (led : Led) : Type 0 where
    pub output : IsPrefix (output_of led) (after_more code k r).output
    pub end : IsEnd r k led

  -- what k steps have done, more have done
  end_more : (r : ItemRun) (k j : ℕ) (led : Led) → IsEnd r k led → IsEnd r (k + j) led
  end_more r k j (goes s) h = tt
  end_more r k j (hangs e) h = h
  end_more r k j (stops event.Ended e) h =
      subst (λ (q : ItemRun). (q.standing ≡ ended) × IsSameAs q e) (sym (both_more code k j r ∙ run_stays code j (after_more code k r) (λ g. let z : ended ≡ going = sym h.0 ∙ g in cc))) h
  end_more r k j (stops (event.Fault kind at) e) h =
      subst (λ (q : ItemRun). (q.standing ≡ faulted kind at) × IsSameAs q e) (sym (both_more code k j r ∙ run_stays code j (after_more code k r) (λ g. let z : faulted kind at ≡ going = sym h.0 ∙ g in cc))) h
  end_more r k j (stops event.Exhausted e) h = record { step = h.step; is_within = (let le = h.is_within in omega arith); past = h.past }
  end_more r k j (stops event.Going e) h = h
  end_more r k j (stops (event.Put b) e) h = h
  end_more r k j (stops event.WantByte e) h = h
  end_more r k j (stops (event.Trap t) e) h = h
  end_more r k j wrong h = h

  pub behind_more : (r : ItemRun) (k n : ℕ) (led : Led) → k ≤ n → Behind r k led → Behind r n led
  behind_more r k n led le h =
      let e : k + (n - k) ≡ n = omega arith in
      subst (λ m. Behind r m led) e (record {
        output = subst (λ (q : ItemRun). IsPrefix (output_of led) q.output) (sym (both_more code k (n - k) r))
            (prefix_more (output_of led) (after_more code k r).output (after_more code (n - k) (after_more code k r)).output h.output (run_grows code (n - k) (after_more code k r)));
        end = end_more r k (n - k) led h.end;
      })

  -- and from the run before
  end_before : (r : ItemRun) (k : ℕ) (led : Led) → IsEnd (tick code r) k led → IsEnd r (suc k) led
  end_before r k (goes s) h = tt
  end_before r k (hangs e) h = h
  end_before r k (stops event.Ended e) h = subst (λ (q : ItemRun). (q.standing ≡ ended) × IsSameAs q e) (sym (first_more code k r)) h
  end_before r k (stops (event.Fault kind at) e) h = subst (λ (q : ItemRun). (q.standing ≡ faulted kind at) × IsSameAs q e) (sym (first_more code k r)) h
  end_before r k (stops event.Exhausted e) h = passes_before r k h
  end_before r k (stops event.Going e) h = h
  end_before r k (stops (event.Put b) e) h = h
  end_before r k (stops event.WantByte e) h = h
  end_before r k (stops (event.Trap t) e) h = h
  end_before r k wrong h = h

  behind_before : (r : ItemRun) (k : ℕ) (led : Led) → Behind (tick code r) k led → Behind r (suc k) led
  behind_before r k led h = record { output = subst (λ (q : ItemRun). IsPrefix (output_of led) q.output) (sym (first_more code k r)) h.output; end = end_before r k led h.end }

  -- where a step leads has the output of the run after it
  record IsThere (q : ItemRun) (led : Led) : Type 0 where
    right : IsRight led
    output : output_of led ≡ q.output

  there : (q : ItemRun) (led : Led) → q.standing ≢ stuck → Lands code (word_code code) size q led → IsThere q led
  there q led free (lands_on t e tracks) = subst (IsThere q) (sym e) (record { right = tt; output = tracks.same.output })
  there q led free (runs_out d e same past) = subst (IsThere q) (sym e) (record { right = tt; output = same })
  there q led free (is_told kind at d e told same) = subst (IsThere q) (sym e) (record { right = tt; output = same.output })
  there q led free (is_lost lost) = absurd (free lost)

  -- an end to which a step leads
  landed : (r : ItemRun) (n : ℕ) (led : Led) → (tick code r).standing ≢ stuck → Lands code (word_code code) size (tick code r) led → Behind r (suc n) led
  landed r n led free lands =
      let is = there (tick code r) led free lands in
      record {
        output = subst (λ (q : ItemRun). IsPrefix (output_of led) q.output) (sym (first_more code n r))
            (subst (λ (o : Bytes). IsPrefix o (after_more code n (tick code r)).output) (sym is.output) (run_grows code n (tick code r)));
        end = by lands;
      }
    where
      by : Lands code (word_code code) size (tick code r) led → IsEnd r (suc n) led
      by (lands_on t e tracks) = subst (IsEnd r (suc n)) (sym e) tt
      by (runs_out d e same past) = subst (IsEnd r (suc n)) (sym e) (one_passes r n past)
      by (is_told kind at d e told same) =
          subst (IsEnd r (suc n)) (sym e)
          (subst (λ (q : ItemRun). (q.standing ≡ faulted kind at) × IsSameAs q d) (sym (first_more code n r ∙ run_stays code n (tick code r) (λ g. let z : faulted kind at ≡ going = sym told ∙ g in cc))) (told, same))
      by (is_lost lost) = absurd (free lost)

  -- on the way to there
  underway : (r : ItemRun) (n : ℕ) (now led : Led) → (tick code r).standing ≢ stuck → Lands code (word_code code) size (tick code r) led → OnWay now led → Behind r (suc n) now
  underway r n now led free lands (already e) = subst (Behind r (suc n)) (sym e) (landed r n led free lands)
  underway r n now led free lands (still u e prefix) =
      let is = there (tick code r) led free lands in
      record {
        output = subst (λ (q : ItemRun). IsPrefix (output_of now) q.output) (sym (first_more code n r))
            (prefix_more (output_of now) (tick code r).output (after_more code n (tick code r)).output (subst (λ (o : Bytes). IsPrefix (output_of now) o) is.output prefix) (run_grows code n (tick code r)));
        end = subst (IsEnd r (suc n)) (sym e) tt;
      }

  -- past there
  beyond : (r : ItemRun) (c m n : ℕ) (t : State) (led : Led) → c + m ≡ n → 1 ≤ c → led_on (word_code code) c (goes t) ≡ led → (tick code r).standing ≢ stuck → Lands code (word_code code) size (tick code r) led
      → ((u : State) → Tracks code (word_code code) size (tick code r) u → Behind (tick code r) (suc m) (led_on (word_code code) m (goes u))) → Behind r (suc n) (led_on (word_code code) n (goes t))
  beyond r c m n t led sum some is free lands further =
      let all : led_on (word_code code) n (goes t) ≡ led_on (word_code code) m led = ap (λ k. led_on (word_code code) k (goes t)) (sym sum) ∙ runs_split (word_code code) c m (goes t) ∙ ap (led_on (word_code code) m) is in
      subst (Behind r (suc n)) (sym all) (by lands)
    where
      by : Lands code (word_code code) size (tick code r) led → Behind r (suc n) (led_on (word_code code) m led)
      by (lands_on u e tracks) =
          subst (λ (l : Led). Behind r (suc n) (led_on (word_code code) m l)) (sym e)
          (behind_more r (suc (suc m)) (suc n) (led_on (word_code code) m (goes u)) (omega arith) (behind_before r (suc m) (led_on (word_code code) m (goes u)) (further u tracks)))
      by (runs_out d e same past) = subst (Behind r (suc n)) (e ∙ sym (stopped_stays (word_code code) m event.Exhausted d) ∙ ap (led_on (word_code code) m) (sym e)) (landed r n led free (runs_out d e same past))
      by (is_told kind at d e told same) =
          subst (Behind r (suc n)) (e ∙ sym (stopped_stays (word_code code) m (event.Fault kind at) d) ∙ ap (led_on (word_code code) m) (sym e)) (landed r n led free (is_told kind at d e told same))
      by (is_lost lost) = absurd (free lost)

  -- the last steps
  at_end : (r : ItemRun) (k n : ℕ) (t : State) → r.standing ≡ ended → Reach (word_code code) (HasEnded r) 60 t → Behind r k (led_on (word_code code) n (goes t))
  at_end r k n t is h =
      elim (cases_lt n h.count) [
        | inl lt ↦
            let sum : n + (h.count - n) ≡ h.count = omega arith in
            way (on_way help (word_code code) n (h.count - n) t (stops event.Ended h.is.held) (ap (λ k. led_on (word_code code) k (goes t)) sum ∙ h.is.is) tt)
        | inr le ↦
            let sum : h.count + (n - h.count) ≡ n = omega arith in
            subst (Behind r k) (sym (ap (λ k. led_on (word_code code) k (goes t)) (sym sum) ∙ runs_split (word_code code) h.count (n - h.count) (goes t) ∙ ap (led_on (word_code code) (n - h.count)) h.is.is ∙ stopped_stays (word_code code) (n - h.count) event.Ended h.is.held)) stopped
      ]
    where
      stays : after_more code k r ≡ r
      stays = run_stays code k r (λ g. let z : ended ≡ going = sym is ∙ g in cc)

      stopped : Behind r k (stops event.Ended h.is.held)
      stopped = record {
        output = subst (λ (q : ItemRun). IsPrefix h.is.held.output q.output) (sym stays) (subst (λ (o : Bytes). IsPrefix o r.output) (sym h.is.same.output) (prefix_all r.output));
        end = subst (λ (q : ItemRun). (q.standing ≡ ended) × IsSameAs q h.is.held) (sym stays) (is, h.is.same);
      }

      way : OnWay (led_on (word_code code) n (goes t)) (stops event.Ended h.is.held) → Behind r k (led_on (word_code code) n (goes t))
      way (already e) = subst (Behind r k) (sym e) stopped
      way (still u e prefix) = record {
        output = subst (λ (q : ItemRun). IsPrefix (output_of (led_on (word_code code) n (goes t))) q.output) (sym stays)
            (subst (λ (o : Bytes). IsPrefix (output_of (led_on (word_code code) n (goes t))) o) h.is.same.output prefix);
        end = subst (IsEnd r k) (sym e) tt;
      }

  pub back : (fuel n : ℕ) → n < fuel → (r : ItemRun) (t : State) → Tracks code (word_code code) size r t → (after_more code (suc n) r).standing ≢ stuck → Behind r (suc n) (led_on (word_code code) n (goes t))
  back zero n lt r t tracks free = absurd (omega arith)
  back (suc fuel) n lt r t tracks free =
      elim (two_standings r.state.focus r.state.newest) [
        | inl on ↦ one (goes_so code (word_code code) size r t tracks sel help ok (tracks.standing ∙ on)) (λ m less u h fr. back fuel m less (tick code r) u h fr)
        | inr end ↦ at_end r (suc n) n t (tracks.standing ∙ end) (ends_so code (word_code code) size r t tracks sel (tracks.standing ∙ end))
      ]
    where
      later_free : (after_more code n (tick code r)).standing ≢ stuck
      later_free e = free (ap (λ (q : ItemRun). q.standing) (first_more code n r) ∙ e)

      tick_free : (tick code r).standing ≢ stuck
      tick_free = stuck_later code n (tick code r) later_free

      one : Reach (word_code code) (Lands code (word_code code) size (tick code r)) (step_cost (deepest code.items)) t
          → ((m : ℕ) → m < fuel → (u : State) → Tracks code (word_code code) size (tick code r) u → (after_more code (suc m) (tick code r)).standing ≢ stuck → Behind (tick code r) (suc m) (led_on (word_code code) m (goes u)))
          → Behind r (suc n) (led_on (word_code code) n (goes t))
      one h further =
          elim (cases_lt n h.count) [
            | inl less ↦
                let sum : n + (h.count - n) ≡ h.count = omega arith in
                underway r n (led_on (word_code code) n (goes t)) (led_on (word_code code) h.count (goes t)) tick_free h.is
                (on_way help (word_code code) n (h.count - n) t (led_on (word_code code) h.count (goes t)) (ap (λ k. led_on (word_code code) k (goes t)) sum) (there (tick code r) (led_on (word_code code) h.count (goes t)) tick_free h.is).right)
            | inr le ↦
                let sum : h.count + (n - h.count) ≡ n = omega arith in
                let some = h.some in
                let later : suc (n - h.count) + (h.count - 1) ≡ n = omega arith in
                beyond r h.count (n - h.count) n t (led_on (word_code code) h.count (goes t)) sum h.some refl tick_free h.is
                (λ u tracks. further (n - h.count) (omega arith) u tracks
                (stuck_later code (h.count - 1) (after_more code (suc (n - h.count)) (tick code r))
                (λ e. later_free (ap (λ k. (after_more code k (tick code r)).standing) (sym later) ∙ ap (λ (q : ItemRun). q.standing) (both_more code (suc (n - h.count)) (h.count - 1) (tick code r)) ∙ e))))
          ]
