-- What the stacks keep.
use Rattle.std.specs.Prelude.{◌≡◌, ℕ, ◌+◌, ◌*◌, ◌<◌, ◌≤◌, List, [], ◌∷◌, length}
use Rattle.std.specs.Coded.{×_prop, Unit-prop, le_prop, Coded-set, coded_ℕ}
use Rattle.pe_machine.specs.States.{Binding, to_sequence, Frame, Held, oldest}
use Rattle.pe_machine.specs.declared.frames.Binding as array_binding
use Rattle.pe_machine.specs.declared.frames.Binding.TheVariants as binding
use Rattle.pe_machine.specs.declared.frames.Frame as array_frame

-- the numbers of frames fall from the newest to the oldest, from below n
abbrev pub IsNumbered : ℕ → List Frame → Type 0
IsNumbered n [] = Unit {0}
IsNumbered n (f ∷ fs) = (f.number < n) × IsNumbered f.number fs

-- how many cells of sequences a frame holds
abbrev pub cells_of : Binding → ℕ
cells_of (to_sequence c) = length c.values
cells_of _ = 0

-- how many cells of sequences frames hold
abbrev pub cells_in : List Frame → ℕ
cells_in [] = 0
cells_in (f ∷ fs) = cells_of f.binding + cells_in fs

-- each context's frames are the oldest of those that stand, its base is at most the limit and pays for them and for the contexts before it
abbrev pub AreBased : ℕ → List Frame → List Held → Type 0
AreBased limit fs [] = Unit {0}
AreBased limit fs (c ∷ cs) =
    (c.frames ≤ length fs) × ((8 * (c.frames + length cs) ≤ c.base) × ((cells_in (oldest c.frames fs) ≤ c.base) × ((c.base ≤ limit) × AreBased limit (oldest c.frames fs) cs)))

-- how many cells a frame of the array has
abbrev pub count_in : array_binding.Binding → ℕ
count_in (binding.ToSequence place count) = count
count_in _ = 0

-- the cells of each frame of the array begin where those of the older ones end, from n to the end
abbrev pub AreLaid : ℕ → List array_frame.Frame → ℕ → Type 0
AreLaid n [] end = n ≡ end
AreLaid n (f ∷ fs) end = (f.cells ≡ n) × AreLaid (n + count_in f.binding) fs end

pub numbered_prop : (n : ℕ) (fs : List Frame) → IsProp (IsNumbered n fs)
numbered_prop n [] = Unit-prop
numbered_prop n (f ∷ fs) = ×_prop le_prop (numbered_prop f.number fs)

pub based_prop : (limit : ℕ) (fs : List Frame) (cs : List Held) → IsProp (AreBased limit fs cs)
based_prop limit fs [] = Unit-prop
based_prop limit fs (c ∷ cs) = ×_prop le_prop (×_prop le_prop (×_prop le_prop (×_prop le_prop (based_prop limit (oldest c.frames fs) cs))))

pub laid_prop : (n : ℕ) (fs : List array_frame.Frame) (end : ℕ) → IsProp (AreLaid n fs end)
laid_prop n [] end = Coded-set coded_ℕ n end
laid_prop n (f ∷ fs) end = ×_prop (Coded-set coded_ℕ f.cells n) (laid_prop (n + count_in f.binding) fs end)
