-- The copy rule's state that a value of the program stands for.
use Rattle.std.specs.Prelude.{ℕ, List, [], ◌∷◌}
use Rattle.fy_phrase.specs.Reads.{reads, reads_parts}
use Rattle.fy_phrase.specs.Contexts.{CopyContext, op_1, op_l, op_r, if_c, case_c, arg_c, pick_c, then_c, assign_c, store_c, while_c, body_c, loop_c, new_c, drop_c, put_c, esc_c, cells_c, fill_c, element_c, Pushed}
use Rattle.fy_phrase.specs.Copy as copy
use Rattle.fy_phrase.specs.Copy.{CopyState}
use Rattle.fy_copy.specs.declared.context.Context.{Context}
use Rattle.fy_copy.specs.declared.context.Context.TheVariants as held
use Rattle.fy_copy.specs.declared.context.Frame.{Frame}
use Rattle.fy_copy.specs.declared.context.Filling.{Filling}
use Rattle.fy_copy.specs.declared.context.Content.{Content}
use Rattle.fy_copy.specs.declared.context.Content.TheVariants.{Single, Several}
use Rattle.fy_copy.specs.declared.context.Row.{Row}
use Rattle.fy_copy.specs.declared.context.Which.{Which}
use Rattle.fy_copy.specs.declared.context.Which.TheVariants.{Own, Element}
use Rattle.fy_copy.specs.declared.context.Core.{Core}

abbrev pub filling_of : Filling → CopyContext
filling_of f = fill_c f.number f.count f.depth (reads f.body) f.place

abbrev pub context_of : Context → CopyContext
context_of (held.Op1 op at) = op_1 op at
context_of (held.OpL op q at) = op_l op (reads q) at
context_of (held.OpR op u at) = op_r op u at
context_of (held.If p q) = if_c (reads p) (reads q)
context_of (held.Case parts at) = case_c (reads_parts parts) at
context_of (held.Arg q) = arg_c (reads q)
context_of (held.Pick i) = pick_c i
context_of (held.Then q) = then_c (reads q)
context_of (held.Assign p) = assign_c (reads p)
context_of (held.Store v) = store_c v
context_of (held.While loop c) = while_c (reads loop) (reads c)
context_of (held.Body loop) = body_c (reads loop)
context_of (held.Loop loop) = loop_c (reads loop)
context_of (held.New d body) = new_c d (reads body)
context_of (held.Drop n) = drop_c n
context_of (held.Put kind) = put_c kind
context_of (held.Escape n) = esc_c n
context_of (held.Cells d body at) = cells_c d (reads body) at
context_of (held.Fill f) = filling_of f
context_of (held.Element n) = element_c n

abbrev pub pushed_of : Frame → Pushed CopyContext
pushed_of f = record { base = f.base; context = context_of f.context }

abbrev pub content_shown : Content → copy.Content
content_shown (Single v) = copy.single v
content_shown (Several at values) = copy.several at values.items

abbrev pub row_of : Row → copy.Row
row_of r = record { number = r.number; content = content_shown r.content }

abbrev pub which_of : Which → copy.Which
which_of Own = copy.own
which_of (Element i) = copy.element i

-- contexts and rows with the newest last, before others with the newest first
abbrev pub contexts_onto : List (Pushed CopyContext) → List Frame → List (Pushed CopyContext)
contexts_onto cs [] = cs
contexts_onto cs (f ∷ fs) = contexts_onto (pushed_of f ∷ cs) fs

abbrev pub rows_onto : List copy.Row → List Row → List copy.Row
rows_onto rs [] = rs
rows_onto rs (r ∷ more) = rows_onto (row_of r ∷ rs) more

abbrev pub state_of : Core → CopyState
state_of core = record {
  focus = reads core.focus;
  contexts = contexts_onto [] core.contexts.items;
  store = rows_onto [] core.store.items;
  next = core.next;
  load = core.load;
}

-- the state with one more context, of that base
abbrev pub with_context : ℕ → CopyContext → CopyState → CopyState
with_context base c s = record s { contexts = (record { base = base; context = c }) ∷ s.contexts }
