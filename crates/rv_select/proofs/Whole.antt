-- Whole runs, from the start.
use Rattle.std.proofs.Common.{◌≡◌, ◌≢◌, ℕ, suc, ◌+◌, ◌-◌, ◌<◌, ◌≤◌, ◌⊎◌, length, refl, sym, ap, ◌∙◌, subst, inl, inr, arith}
use Rattle.std.proofs.lemmas.Bool.{cases_lt}
use Rattle.std.proofs.lemmas.List.{length-replicate}
use Rattle.fy_base.specs.Outside.{Bytes, IsPrefix}
use Rattle.fy_runs.proofs.Outer.{prefix_more}
use Rattle.rv_insn.specs.declared.events.Event.TheVariants as event
use Rattle.rv_insn.specs.Program.{stack_start}
use Rattle.pe_code.specs.declared.code.PeCode.{PeCode}
use Rattle.pe_machine.specs.Run.{stuck}
use Rattle.pe_items.specs.Run.{ItemRun, after_more, start_run, items_after}
use Rattle.rv_word.specs.declared.micros.Register.TheVariants.{Frame, Context, Top, First}
use Rattle.rv_word.specs.Word.{State, Led, goes, hangs, stops, wrong, word_address, block, led_on, word_run}
use Rattle.rv_word.specs.Laws.{output_of, IsRight}
use Rattle.rv_flow.specs.Laws.{start_data}
use Rattle.rv_select.specs.Numbers.{start_label, end_entry, label_of, entry_word}
use Rattle.rv_select.specs.Blocks.{start_block}
use Rattle.rv_select.specs.Program.{word_code}
use Rattle.rv_select.specs.Laws.{IsSelectable, IsOutside, start_of, StandsAs, Reaches, RunsReach, IsEndOf, IsBehind, RunsFollow}
use Rattle.rv_select.proofs.Runs.{spent_on, spent_is, runs_split, spent_split, Reach}
use Rattle.rv_select.proofs.Wp.{with_value, by_block}
use Rattle.rv_select.proofs.Values.{moves, moves_on}
use Rattle.rv_select.proofs.SelectedCode.{IsSelected}
use Rattle.rv_select.proofs.ItemSteps.{Helpers}
use Rattle.rv_select.proofs.Placed.{selected}
use Rattle.rv_select.proofs.ItemRuns.{both_more, run_grows, stuck_later}
use Rattle.rv_select.proofs.Both.{Tracks}
use Rattle.rv_select.proofs.RunsAgree.{OnWay, still, already, on_way, forth, IsEnd, behind_more, back}

-- the first block leads to where the program begins
pub record Begins (code : PeCode) (size : ℕ) (input : Bytes) (led : Led) : Type 0 where
  pub state : State
  pub is : led ≡ goes state
  pub tracks : Tracks code (word_code code) size (start_run input) state

module _ (code : PeCode) (help : Helpers) (ok : IsSelectable code) (size : ℕ) (input : Bytes) (out : IsOutside size input) where
  sel : IsSelected code (word_code code)
  sel = selected code ok.valid

  begins : Reach (word_code code) (Begins code size input) 72 (start_of code size input)
  begins =
      let words : length (start_data size input).words ≡ size = length-replicate size 0 in
      let least = out.least in
      let most = out.most in
      let entry = sel.fixed 0 (omega arith) in
      subst (λ l. Reach (word_code code) (Begins code size input) 72 (record { rest = block (word_code code) l; held = start_data size input })) (sym entry.leads)
      (by_block (word_code code) (Begins code size input) start_label (start_block code) (start_data size input) 72 (sel.own 0 (omega arith)) (omega arith) (
        word_address 0,
        moves stack_start (word_address 0) refl (omega arith),
        (
          word_address 0,
          moves (word_address 0) (word_address 0) refl (omega arith),
          (
            0,
            refl,
            omega arith,
            (
              0,
              refl,
              omega arith,
              λ n1 w1. (
                word_address 1,
                moves_on (word_address 0) 0 1 8 refl (omega arith) (omega arith),
                record {
                  state = record {
                    rest = block (word_code code) (label_of code 0);
                    held = record (with_value Top (word_address 1) (with_value First (entry_word end_entry) (with_value Context (word_address 0) (with_value Frame (word_address 0) (with_value Top stack_start (start_data size input)))))) { words = n1 };
                  };
                  is = refl;
                  tracks = record {
                    standing = refl;
                    stands = inl (record {
                      items = record {
                        newest_is = refl;
                        top_is = refl;
                        memory = record { foot = w1.here; fits = (let z = w1.size in omega arith); few = (let z = w1.size in omega arith); laid = tt };
                        bytes = out.bytes;
                      };
                      focus = record { depth = 0; leads = ok.valid.program; deep = refl; frame = refl; at = refl };
                    });
                    same = record { output = refl; input = refl };
                    size_is = w1.size ∙ words;
                  };
                },
              ),
            ),
          ),
        ),
      ))

  -- ---- forth

  pub reaches : (k : ℕ) → (items_after code input k).standing ≢ stuck → Reaches code size input k
  reaches k free =
      let b = begins in
      let c = forth code help ok size k (start_run input) b.is.state b.is.tracks free in
      let all : led_on (word_code code) (b.count + c.count) (goes (start_of code size input)) ≡ led_on (word_code code) c.count (goes b.is.state) =
      runs_split (word_code code) b.count c.count (goes (start_of code size input)) ∙ ap (led_on (word_code code) c.count) b.is.is in
      let sum = spent_split (word_code code) b.count c.count (goes (start_of code size input)) in
      let rest = ap (spent_on (word_code code) c.count) b.is.is in
      let same = spent_is (word_code code) (b.count + c.count) (start_of code size input) in
      let first = b.cost in
      let then = c.cost in
      record {
        count = b.count + c.count;
        cost = omega arith;
        is = elim c.is [
          | inl stands ↦ inl (subst (λ (l : Led). StandsAs (items_after code input k).standing (items_after code input k) l) (sym all) stands)
          | inr ran ↦ inr (ran.0, all ∙ ran.1, record { step = ran.2.step; is_within = ran.2.is_within; past = ran.2.past })
        ];
      }

  -- ---- back

  end_is : (n : ℕ) (led : Led) → IsEnd code help ok size (start_run input) n led → IsEndOf code input n size led
  end_is n (goes s) h = tt
  end_is n (hangs e) h = h
  end_is n (stops event.Ended e) h = h
  end_is n (stops (event.Fault kind at) e) h = h
  end_is n (stops event.Exhausted e) h = record { step = h.step; is_within = h.is_within; past = h.past }
  end_is n (stops event.Going e) h = h
  end_is n (stops (event.Put b) e) h = h
  end_is n (stops event.WantByte e) h = h
  end_is n (stops (event.Trap t) e) h = h
  end_is n wrong h = h

  -- nothing is put before the program begins
  silent : (n : ℕ) (now led : Led) → Begins code size input led → OnWay now led → IsBehind code size input n now
  silent n now led b (already e) =
      subst (IsBehind code size input n) (sym (e ∙ b.is))
      (record { output = subst (λ (o : Bytes). IsPrefix o (items_after code input n).output) (sym b.tracks.same.output) (run_grows code n (start_run input)); end = tt })
  silent n now led b (still u e prefix) =
      record {
        output = prefix_more (output_of now) (start_run input).output (items_after code input n).output (subst (λ (o : Bytes). IsPrefix (output_of now) o) (ap output_of b.is ∙ b.tracks.same.output) prefix) (run_grows code n (start_run input));
        end = subst (IsEndOf code input n size) (sym e) tt;
      }

  pub follows : (n : ℕ) → (items_after code input n).standing ≢ stuck → IsBehind code size input n (word_run (word_code code) n (start_of code size input))
  follows n free =
      by (cases_lt n begins.count)
    where
      b : Reach (word_code code) (Begins code size input) 72 (start_of code size input)
      b = begins

      by : (n < begins.count) ⊎ (begins.count ≤ n) → IsBehind code size input n (word_run (word_code code) n (start_of code size input))
      by (inl lt) =
          let sum : n + (begins.count - n) ≡ begins.count = omega arith in
          silent n (led_on (word_code code) n (goes (start_of code size input))) (led_on (word_code code) begins.count (goes (start_of code size input))) begins.is
          (on_way help (word_code code) n (begins.count - n) (start_of code size input) (led_on (word_code code) begins.count (goes (start_of code size input))) (ap (λ k. led_on (word_code code) k (goes (start_of code size input))) sum)
          (subst IsRight (sym begins.is.is) tt))
      by (inr le) =
          let some = begins.some in
          let m = n - begins.count in
          let sum : begins.count + (n - begins.count) ≡ n = omega arith in
          let more : suc (n - begins.count) + (begins.count - 1) ≡ n = omega arith in
          let all : led_on (word_code code) n (goes (start_of code size input)) ≡ led_on (word_code code) (n - begins.count) (goes begins.is.state) =
          ap (λ k. led_on (word_code code) k (goes (start_of code size input))) (sym sum) ∙ runs_split (word_code code) begins.count (n - begins.count) (goes (start_of code size input)) ∙ ap (led_on (word_code code) (n - begins.count)) begins.is.is in
          let h = behind_more code help ok size (start_run input) (suc (n - begins.count)) n (led_on (word_code code) (n - begins.count) (goes begins.is.state)) (omega arith)
          (back code help ok size (suc (n - begins.count)) (n - begins.count) (omega arith) (start_run input) begins.is.state begins.is.tracks
          (stuck_later code (begins.count - 1) (after_more code (suc (n - begins.count)) (start_run input))
          (λ e. free (ap (λ k. (after_more code k (start_run input)).standing) (sym more) ∙ ap (λ (q : ItemRun). q.standing) (both_more code (suc (n - begins.count)) (begins.count - 1) (start_run input)) ∙ e)))) in
          subst (IsBehind code size input n) (sym all)
          (record { output = h.output; end = end_is n (led_on (word_code code) (n - begins.count) (goes begins.is.state)) h.end })

pub runs_reach : Helpers → RunsReach
runs_reach help code size input k ok out free = reaches code help ok size input out k free

pub runs_follow : Helpers → RunsFollow
runs_follow help code size input n ok out free = follows code help ok size input out n free
