-- A path's number, which is made of all of it from the front, and its key, which leaves out the domains: of paths that are equal the numbers are equal,
-- and of paths that are below one another, or have a common path, the keys.
use Rattle.std.specs.Prelude.{ℕ, ◌+◌, ◌*◌, ◌^◌, ◌/◌, ◌%◌}
use Rattle.fy_types.specs.declared.types.Atom.{Atom}
use Rattle.fy_types.specs.declared.types.Atom.TheVariants.{Int, Char, Comm, Compl, IntAcc, BoolAcc, CharAcc}
use Rattle.fy_types.specs.declared.types.Atom.TheVariants as atoms
use Rattle.fy_types.specs.Once.{place}
use Rattle.fy_types.specs.Paths.{PlainPath, PlainPaths, end, call, pick, no_paths, and_path}
use Rattle.fy_types.specs.Reading.{PlainElem, a_call, a_field}

-- the number and the square of its high half, so that multiples of one number have many remainders (what O'Neill's generators do to a step, in another way)
abbrev pub spread : ℕ → ℕ
spread n = (n + ((n / 2 ^ 32) * (n / 2 ^ 32)) % 2 ^ 64) % 2 ^ 64

-- a number and one more mark: a step of Knuth's linear congruential generator, with the mark as its increment, and spread
abbrev pub mixed : ℕ → ℕ → ℕ
mixed n mark = spread (((n * 6364136223846793005) % 2 ^ 64 + mark) % 2 ^ 64)

abbrev mutual
  pub path_number : ℕ → PlainPath → ℕ
  path_number n (end a) = mixed n (place a)
  path_number n (call D p) = path_number (mixed (paths_number (mixed n 8) D) 9) p
  path_number n (pick i p) = path_number (mixed n (i + 10)) p

  pub paths_number : ℕ → PlainPaths → ℕ
  paths_number n no_paths = n
  paths_number n (and_path p P) = paths_number (path_number n p) P

abbrev pub number_of : PlainPath → ℕ
number_of p = path_number 0 p

abbrev pub elem_number : ℕ → PlainElem → ℕ
elem_number n (a_call D) = mixed (paths_number (mixed n 8) D) 9
elem_number n (a_field i) = mixed n (i + 10)

-- nothing but that it is a call, or a field's name
abbrev pub mark : PlainElem → ℕ
mark (a_call D) = 0
mark (a_field i) = i + 1

-- an end's class: those that are below one another are of one class
abbrev pub class : Atom → ℕ
class Int = 0
class atoms.Bool = 1
class Char = 2
class Comm = 3
class Compl = 3
class IntAcc = 4
class BoolAcc = 5
class CharAcc = 6

abbrev pub key_from : ℕ → PlainPath → ℕ
key_from n (end a) = mixed n (class a)
key_from n (call D p) = key_from (mixed n 0) p
key_from n (pick i p) = key_from (mixed n (i + 1)) p

abbrev pub key_of : PlainPath → ℕ
key_of p = key_from 0 p
