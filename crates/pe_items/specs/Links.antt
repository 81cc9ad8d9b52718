-- Where the addresses in items lead: each to a frame or a context that stands below.
use Rattle.std.specs.Prelude.{◌≡◌, ◌⊎◌, ℕ, List, [], ◌∷◌, IsSome, Some, None}
use Rattle.std.specs.declared.option.Option.{Option}
use Rattle.fy_phrase.specs.Contexts.{op_l, if_c, case_c, arg_c, then_c, assign_c, while_c, body_c, loop_c, new_c, cells_c, fill_c, element_c}
use Rattle.pe_machine.specs.States.{Thunk, source, datum, cell_of, jump_of, sequence_of, Focus, code_at, value, completed, PeContext}
use Rattle.pe_items.specs.Items.{ItemBinding, to_thunk, to_cell, to_escape, Item, frame, context, sequence, address_on, context_at, datum_in, context_in, sequence_at, ItemState}

-- ---- frames

-- a frame stands at the address, and its binding is as F says
abbrev pub HasFrame : (ItemBinding → Type 0) → ℕ → List Item → Type 0
HasFrame F x [] = ⊥
HasFrame F x (context content outside ∷ is) = HasFrame F x is
HasFrame F x (sequence c ∷ is) = HasFrame F x is
HasFrame F x (frame depth binding around ∷ is) = ((x ≡ address_on is) × F binding) ⊎ HasFrame F x is

abbrev pub IsAny : ItemBinding → Type 0
IsAny b = Unit {0}

abbrev pub IsCell : ItemBinding → Type 0
IsCell b = IsSome (datum_in b)

abbrev pub IsEscape : ItemBinding → Type 0
IsEscape b = IsSome (context_in b)

-- no frame, or one that stands
abbrev pub LeadsToFrame : List Item → Option ℕ → Type 0
LeadsToFrame is None = Unit {0}
LeadsToFrame is (Some x) = HasFrame (λ b. IsAny b) x is

-- ---- contexts

-- a context stands at the address
abbrev pub HasContext : List Item → ℕ → Type 0
HasContext is x = IsSome (context_at x is)

-- the stack's foot, or a context that stands
abbrev pub LeadsToContext : List Item → ℕ → Type 0
LeadsToContext is x = (x ≡ 0) ⊎ HasContext is x

-- ---- sequences

-- a sequence stands on the context at the address
abbrev pub HasSequence : List Item → ℕ → Type 0
HasSequence is x = IsSome (sequence_at x is)

-- ---- items, each on those below it

abbrev pub IsThunkLinked : List Item → Thunk → Type 0
IsThunkLinked is (source node around) = LeadsToFrame is around
IsThunkLinked is (datum v) = Unit {0}
IsThunkLinked is (cell_of x) = HasFrame (λ b. IsCell b) x is
IsThunkLinked is (jump_of x) = HasFrame (λ b. IsEscape b) x is
IsThunkLinked is (sequence_of x) = HasSequence is x

abbrev pub IsBindingLinked : List Item → ItemBinding → Type 0
IsBindingLinked is (to_thunk t) = IsThunkLinked is t
IsBindingLinked is (to_cell v) = Unit {0}
IsBindingLinked is (to_escape c) = HasContext is c

abbrev pub IsContextLinked : List Item → PeContext → Type 0
IsContextLinked is (op_l op q at) = LeadsToFrame is q.frame
IsContextLinked is (if_c p q) = LeadsToFrame is p.frame × LeadsToFrame is q.frame
IsContextLinked is (case_c parts at) = LeadsToFrame is parts.frame
IsContextLinked is (arg_c t) = IsThunkLinked is t
IsContextLinked is (then_c q) = LeadsToFrame is q.frame
IsContextLinked is (assign_c p) = LeadsToFrame is p.frame
IsContextLinked is (while_c loop c) = LeadsToFrame is loop.frame × LeadsToFrame is c.frame
IsContextLinked is (body_c loop) = LeadsToFrame is loop.frame
IsContextLinked is (loop_c loop) = LeadsToFrame is loop.frame
IsContextLinked is (new_c d body) = LeadsToFrame is body.frame
IsContextLinked is (cells_c d body at) = LeadsToFrame is body.frame
IsContextLinked is (fill_c n m d body at) = LeadsToFrame is body.frame
IsContextLinked is (element_c w) = HasSequence is w.number
IsContextLinked is _ = Unit {0}

abbrev pub IsItemLinked : List Item → Item → Type 0
IsItemLinked is (frame depth binding around) = IsBindingLinked is binding × LeadsToFrame is around
IsItemLinked is (context content outside) = IsContextLinked is content × LeadsToContext is outside
IsItemLinked is (sequence c) = Unit {0}

abbrev pub AreLinked : List Item → Type 0
AreLinked [] = Unit {0}
AreLinked (i ∷ is) = IsItemLinked is i × AreLinked is

-- ---- states

abbrev pub IsFocusLinked : List Item → Focus → Type 0
IsFocusLinked is (code_at p) = LeadsToFrame is p.frame
IsFocusLinked is (value v) = Unit {0}
IsFocusLinked is completed = Unit {0}

pub record IsLinked (s : ItemState) : Type 0 where
  pub focus : IsFocusLinked s.items s.focus
  pub newest : LeadsToContext s.items s.newest
  pub items : AreLinked s.items
