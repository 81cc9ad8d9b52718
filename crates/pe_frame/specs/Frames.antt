-- How many words frames and contexts take, and what stands in them.
use Rattle.std.specs.Prelude.{ℕ, zero, suc, ◌+◌, ◌*◌, ◌/◌}

-- a frame has the entry and the payload of its binding, a word for the value of a cell or the context of an escape, and its display: the addresses of the frames
-- around it, the innermost first. From the second on these are padded to a multiple of four words, so that they are copied by fours
abbrev pub frame_words : ℕ → ℕ
frame_words zero = 3
frame_words (suc d) = 4 + 4 * ((d + 3) / 4)

-- where the binding and the display begin
abbrev pub thunk_start : ℕ
thunk_start = 0

abbrev pub display_start : ℕ
display_start = 3

-- a context has its entry, the address of the context outside it, and two words for its parts
abbrev pub words_of_context : ℕ
words_of_context = 4
