-- What a function of the parser returned, beside what reading gives.
use Rattle.std.specs.Prelude.{◌≡◌, Result, Ok, Err}
use Rattle.fy_syntax.specs.Reader.{Fault}
use Rattle.fy_grammar.specs.declared.stop.Stop.{Stop}
use Rattle.fy_grammar.specs.declared.stop.Stop.TheVariants.{Wrong, Deep, OutOfMemory}

-- reading meets the fault that is told; want of memory may come anywhere
abbrev pub Stops : {Y : Type 0} → Stop → Result Y Fault → Type 0
Stops (Wrong tokens) reading = reading ≡ Err (Fault.wrong tokens.now)
Stops (Deep tokens) reading = reading ≡ Err (Fault.deep tokens.now)
Stops OutOfMemory reading = Unit {0}

-- reading gives what was returned, as it is viewed, or meets the fault that is told
abbrev pub Gives : {X Y : Type 0} → (X → Y) → Result X Stop → Result Y Fault → Type 0
Gives view (Ok x) reading = reading ≡ Ok (view x)
Gives view (Err stop) reading = Stops stop reading
