-- Runs of both machines, step by step.
use Rattle.std.proofs.Common.{ℕ, zero, suc, ◌≡◌, ◌≤◌, pos, List, [], ◌∷◌, ◌++◌, drop, slice_get, refl, sym, ap, ◌∙◌, subst, subst₂, arith, nat_eq, eq-eqb, ne_eqb}
use Rattle.std.proofs.lemmas.Bool.{cond-true, cond-false}
use Rattle.std.proofs.lemmas.List.{length-replicate}
use Rattle.fy_base.specs.declared.data.Datum.TheVariants as datum_kind
use Rattle.fy_base.specs.Outside.{Bytes}
use Rattle.pe_code.specs.declared.code.PeCode.{PeCode}
use Rattle.pe_machine.specs.States.{Frame, Focus, Held, PeState}
use Rattle.pe_machine.specs.Step.{PeMove, pe_step}
use Rattle.pe_machine.specs.Run as machine
use Rattle.pe_machine.specs.Run.{Standing, going, ended, faulted, stuck, gone, PeRun, pe_after}
use Rattle.pe_machine.proofs.RunLemmas.{after_zero, after_suc}
use Rattle.pe_items.specs.Items.{Item, ItemState}
use Rattle.pe_items.specs.Step.{ItemMove, item_step}
use Rattle.pe_items.specs.Run as items
use Rattle.pe_items.specs.Run.{ItemRun, items_after}
use Rattle.pe_items.specs.Laws.{InStepAs, ItemsGoInStep}
use Rattle.pe_items.proofs.Lays.{cost, FocusStands, at_code, at_value, at_end, nothing, StateStands, Stands, at_rest, at_fill}
use Rattle.pe_items.proofs.NewestLemmas.{IsNewest, newest-of}
use Rattle.pe_items.proofs.Alike.{Alike, both_go, both_put, both_take, both_fault, one_sticks, one_loses}
use Rattle.pe_items.proofs.InstructionLemmas.{both-step}
use Rattle.pe_items.proofs.RunSteps.{items_zero, items_suc}

-- ---- both runs

pub record Agree (r : PeRun) (i : ItemRun) : Type 0 where
  pub standing : i.standing ≡ r.standing
  pub input : i.input ≡ r.input
  pub output : i.output ≡ r.output
  pub state : Stands r.state i.state

-- where the push-enter machine is stuck or gone nothing is said
abbrev pub AgreeAs : Standing → PeRun → ItemRun → Type 0
AgreeAs going r i = Agree r i
AgreeAs ended r i = Agree r i
AgreeAs (faulted kind at) r i = Agree r i
AgreeAs stuck r i = Unit {0}
AgreeAs gone r i = Unit {0}

agree-as : (st : Standing) (r : PeRun) (i : ItemRun) → Agree r i → AgreeAs st r i
agree-as going r i a = a
agree-as ended r i a = a
agree-as (faulted kind at) r i a = a
agree-as stuck r i a = tt
agree-as gone r i a = tt

standing-by : (fs : List Frame) (cs : List Held) (newest : ℕ) (is : List Item) (f g : Focus) → FocusStands fs is f g → IsNewest fs cs newest is →
    items.standing_at g newest ≡ machine.standing_at f cs
standing-by fs [] newest is f g at_end n = cond-true (nat_eq newest 0) ended going (eq-eqb newest 0 n)
standing-by fs (c ∷ cs) newest is f g at_end n = let l = n.above_foot in cond-false (nat_eq newest 0) ended going (ne_eqb newest 0 (λ q. omega arith))
standing-by fs cs newest is f g (at_code k) n = refl
standing-by fs cs newest is f g at_value n = refl

standing-alike : (s : PeState) (t : ItemState) → Stands s t → items.standing_of t ≡ machine.standing_of s
standing-alike s t (at_rest w) =
    standing-by s.frames s.contexts t.newest t.items s.focus t.focus w.focus (newest-of s.next w.under.numbers w.under.lays)
standing-alike s t (at_fill paid around under) = refl

-- both are at states that stand
settled-at : (s : PeState) (t : ItemState) (input here output there : Bytes) → Stands s t → here ≡ input → there ≡ output →
    AgreeAs (machine.standing_of s) (record { state = s; input = input; output = output; standing = machine.standing_of s })
    (record { state = t; input = here; output = there; standing = items.standing_of t })
settled-at s t input here output there w e f =
    agree-as (machine.standing_of s) (record { state = s; input = input; output = output; standing = machine.standing_of s })
    (record { state = t; input = here; output = there; standing = items.standing_of t })
    (record { standing = standing-alike s t w; input = e; output = f; state = w })

settled-agree : (m : PeMove) (n : ItemMove) (r : PeRun) (i : ItemRun) → Alike m n → Agree r i →
    AgreeAs (machine.settled m r).standing (machine.settled m r) (items.settled n i)
settled-agree m n r i (both_go {s = s} {t = t} w) a = settled-at s t r.input i.input r.output i.output w a.input a.output
settled-agree m n r i (both_put {text = text} {s = s} {t = t} w) a =
    settled-at s t r.input i.input (r.output ++ text) (i.output ++ text) (at_rest w) a.input (ap (λ (o : Bytes). o ++ text) a.output)
settled-agree m n r i (both_take {go = go} {to = to} w) a =
    settled-at (go (slice_get r.input 0)) (to (slice_get i.input 0)) (drop 1 r.input) (drop 1 i.input) r.output i.output
    (at_rest (subst (λ (b : Bytes). StateStands (go (slice_get r.input 0)) (to (slice_get b 0))) (sym a.input) (w (slice_get r.input 0)))) (ap (λ (b : Bytes). drop 1 b) a.input) a.output
settled-agree m n r i both_fault a = record { standing = refl; input = a.input; output = a.output; state = a.state }
settled-agree m n r i one_sticks a = tt
settled-agree m n r i one_loses a = tt

module _ (code : PeCode) where
  stays : (st : Standing) (r : PeRun) (i : ItemRun) → i.standing ≡ st → items.ticked code st i ≡ i → Agree r i → AgreeAs r.standing r (items.tick code i)
  stays st r i e same a =
      subst (λ (j : ItemRun). AgreeAs r.standing r j) (sym (ap (λ (z : Standing). items.ticked code z i) e ∙ same)) (agree-as r.standing r i a)

  ticked-agree : (st : Standing) (r : PeRun) (i : ItemRun) → r.standing ≡ st → AgreeAs st r i →
      AgreeAs (machine.ticked code st r).standing (machine.ticked code st r) (items.tick code i)
  ticked-agree going r i e a =
      subst (λ (z : Standing). AgreeAs (machine.ticked code going r).standing (machine.ticked code going r) (items.ticked code z i)) (sym (a.standing ∙ e))
      (settled-agree (pe_step code r.state) (item_step code i.state) r i (both-step code r.state i.state a.state) a)
  ticked-agree ended r i e a = stays ended r i (a.standing ∙ e) refl a
  ticked-agree (faulted kind at) r i e a = stays (faulted kind at) r i (a.standing ∙ e) refl a
  ticked-agree stuck r i e a = subst (λ (z : Standing). AgreeAs z r (items.tick code i)) (sym e) tt
  ticked-agree gone r i e a = subst (λ (z : Standing). AgreeAs z r (items.tick code i)) (sym e) tt

  runs-agree : (n : ℕ) (r : PeRun) (i : ItemRun) → AgreeAs r.standing r i →
      AgreeAs (machine.after_more code n r).standing (machine.after_more code n r) (items.after_more code n i)
  runs-agree zero r i a =
      subst₂ (λ (q : PeRun) (j : ItemRun). AgreeAs q.standing q j) (sym (after_zero code r)) (sym (items_zero code i)) a
  runs-agree (suc n) r i a =
      let q : PeRun = machine.after_more code n r in
      let j : ItemRun = items.after_more code n i in
      subst₂ (λ (p : PeRun) (k : ItemRun). AgreeAs p.standing p k) (sym (after_suc code n r)) (sym (items_suc code n i))
      (ticked-agree q.standing q j refl (runs-agree n r i a))

start-agree : (input : Bytes) → Agree (machine.start_run input) (items.start_run input)
start-agree input = record {
  standing = refl;
  input = refl;
  output = refl;
  state = at_rest (record { focus = at_code tt; under = record { lays = nothing; load = omega arith; numbers = tt } });
}

-- the load pays for the items, and for those of a sequence without all its cells
stands-paid : (s : PeState) (t : ItemState) → Stands s t → cost t.items ≤ s.load
stands-paid s t (at_rest w) = w.under.load
stands-paid s t (at_fill {k = k} paid around under) = let small = under.load in let many = length-replicate k (datum_kind.Int (pos 0)) in omega (arith, paid)

in_step : (st : Standing) (r : PeRun) (i : ItemRun) → AgreeAs st r i → InStepAs st r i
in_step going r i a = record { standing = a.standing; input = a.input; output = a.output; load = stands-paid r.state i.state a.state }
in_step ended r i a = record { standing = a.standing; input = a.input; output = a.output; load = stands-paid r.state i.state a.state }
in_step (faulted kind at) r i a = record { standing = a.standing; input = a.input; output = a.output; load = stands-paid r.state i.state a.state }
in_step stuck r i a = tt
in_step gone r i a = tt

pub items_in_step : ItemsGoInStep
items_in_step code input n =
    in_step (pe_after code input n).standing (pe_after code input n) (items_after code input n)
    (runs-agree code n (machine.start_run input) (items.start_run input) (start-agree input))
