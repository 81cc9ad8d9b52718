-- Runs of items alone: their states are linked, and none is gone.
use Rattle.std.proofs.Common.{ℕ, ◌≢◌, slice_get, refl, inl, nat_eq}
use Rattle.std.proofs.lemmas.Bool.{cond_both}
use Rattle.fy_runs.proofs.Runs.{along}
use Rattle.pe_code.specs.declared.code.PeCode.{PeCode}
use Rattle.pe_machine.specs.States.{Focus, code_at, value, completed}
use Rattle.pe_machine.specs.Run.{Standing, going, ended, faulted, stuck, gone}
use Rattle.pe_items.specs.Items.{ItemState}
use Rattle.pe_items.specs.Step.{ItemMove, goes, puts, takes, faults, sticks, item_step}
use Rattle.pe_items.specs.Run.{standing_at, ItemRun, item_machine, settled, ticked, start_run}
use Rattle.pe_items.specs.Links.{IsLinked}
use Rattle.pe_items.specs.Laws.{NoRunIsGone, ItemsStayLinked}
use Rattle.pe_items.proofs.LinkSteps.{IsMoveLinked, step-linked}

-- ---- links

settled-linked : (m : ItemMove) (r : ItemRun) → IsMoveLinked m → IsLinked r.state → IsLinked (settled m r).state
settled-linked (goes s) r h l = h
settled-linked (puts text s) r h l = h
settled-linked (takes go) r h l = h (slice_get r.input 0)
settled-linked (faults kind at) r h l = l
settled-linked sticks r h l = l

ticked-linked : (code : PeCode) (st : Standing) (r : ItemRun) → IsLinked r.state → IsLinked (ticked code st r).state
ticked-linked code going r l = settled-linked (item_step code r.state) r (step-linked code r.state l) l
ticked-linked code ended r l = l
ticked-linked code (faulted kind at) r l = l
ticked-linked code stuck r l = l
ticked-linked code gone r l = l

pub stay_linked : ItemsStayLinked
stay_linked code input n =
    along (λ (r : ItemRun). IsLinked r.state) (item_machine code) (λ r l. ticked-linked code r.standing r l) n (start_run input) (record { focus = tt; newest = inl refl; items = tt })

-- ---- standings

standing-present : (f : Focus) (newest : ℕ) → standing_at f newest ≢ gone
standing-present (code_at p) newest = λ e. cc
standing-present (value v) newest = λ e. cc
standing-present completed newest = cond_both (nat_eq newest 0) ended going (λ st. st ≢ gone) (λ q e. cc) (λ q e. cc)

settled-present : (m : ItemMove) (r : ItemRun) → (settled m r).standing ≢ gone
settled-present (goes s) r = standing-present s.focus s.newest
settled-present (puts text s) r = standing-present s.focus s.newest
settled-present (takes go) r = let s : ItemState = go (slice_get r.input 0) in standing-present s.focus s.newest
settled-present (faults kind at) r = λ e. cc
settled-present sticks r = λ e. cc

ticked-present : (code : PeCode) (st : Standing) (r : ItemRun) → r.standing ≢ gone → (ticked code st r).standing ≢ gone
ticked-present code going r h = settled-present (item_step code r.state) r
ticked-present code ended r h = h
ticked-present code (faulted kind at) r h = h
ticked-present code stuck r h = h
ticked-present code gone r h = h

pub none_gone : NoRunIsGone
none_gone code input n = along (λ (r : ItemRun). r.standing ≢ gone) (item_machine code) (λ r h. ticked-present code r.standing r h) n (start_run input) (λ e. cc)
