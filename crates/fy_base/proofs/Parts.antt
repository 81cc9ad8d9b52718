-- A beginning and the rest.
use Rattle.std.proofs.Common.{◌≡◌, ℕ, List, [], ◌++◌, take, drop, sym, ap, ◌∙◌, OnOk, OnErr, append_assoc, append-nil}
use Rattle.std.proofs.lemmas.List.{take-append-drop}
use Rattle.std.specs.declared.option.Option.{Option}
use Rattle.std.specs.declared.result.Result.{Result}
use Rattle.std.specs.declared.result.Result.TheVariants.{Ok, Err}
use Rattle.fy_base.specs.Outside.{Bytes, IsPrefix, Gained, GainedPart}

-- a list whose beginning another has too is that beginning and its own rest
pub joined : (xs ys : List ℕ) (n : ℕ) → take n ys ≡ take n xs → xs ≡ take n ys ++ drop n xs
joined xs ys n same = sym (ap (λ t. t ++ drop n xs) same ∙ take-append-drop n xs)

-- what begins a beginning begins the whole
begins_further : {part middle whole : Bytes} → IsPrefix part middle → IsPrefix middle whole → IsPrefix part whole
begins_further {part} p q = record {
  rest = p.rest ++ q.rest;
  is = q.is ∙ ap (λ x. x ++ q.rest) p.is ∙ append_assoc part p.rest q.rest;
}

-- the first bytes begin the whole
pub first_begin : (n : ℕ) (bytes : Bytes) → IsPrefix (take n bytes) bytes
first_begin n bytes = record { rest = drop n bytes; is = sym (take-append-drop n bytes) }

-- the whole begins itself
pub all_begin : (bytes : Bytes) → IsPrefix bytes bytes
all_begin bytes = record { rest = []; is = sym (append-nil bytes) }

-- what gained a beginning, or a beginning of that, gained a beginning of the whole
pub gained_part : {T E : Type 0} (result : Result T E) (before now : Option Bytes) (begin bytes : Bytes) → IsPrefix begin bytes → OnOk result (Gained before now begin) → OnErr result (GainedPart before now begin) → GainedPart before now bytes
gained_part (Ok _) before now begin bytes begins gained _ = record { part = begin; gained = gained; begins = begins }
gained_part (Err _) before now begin bytes begins _ part = record { part = part.part; gained = part.gained; begins = begins_further part.begins begins }
