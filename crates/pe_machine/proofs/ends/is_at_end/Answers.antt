use Rattle.std.proofs.Common.{◌≡◌, ℕ, Bool, List, [], ◌∷◌, length, sym, ap, ◌∙◌, arith}
use Rattle.std.specs.Prelude.{◌==◌, if◌then◌else◌}
use Rattle.std.proofs.lemmas.Bool.{cond-false, ne_eqb}
use Rattle.pe_machine.specs.States as states
use Rattle.pe_machine.specs.States.{completed}
use Rattle.pe_machine.specs.Run.{standing_at, ended, going}
use Rattle.pe_machine.specs.Shown.{contexts_onto, focus_of}
use Rattle.pe_machine.specs.declared.contexts.Focus.{Focus}
use Rattle.pe_machine.proofs.Stacks.{length-contexts}
use Rattle.pe_machine.proofs.ends.is_at_end.Goals as goal

standing_completed : (cs : List states.Held) (len : ℕ) → len ≡ length cs → standing_at completed cs ≡ (if len == 0 then ended else going)
standing_completed [] len is = ap (λ (n : ℕ). if n == 0 then ended else going) (sym is)
standing_completed (c ∷ cs) len is = sym (cond-false (len == 0) ended going (ne_eqb len 0 (λ (none : len ≡ 0). absurd (omega arith))))

pub returns-in-Completed : goal.returns-in-Completed
returns-in-Completed c =
    let core = c.args.core.now in
    let cs = contexts_onto [] core.contexts.items in
    ap (λ (f : Focus). standing_at (focus_of f) cs) c.in-Completed.is
    ∙ standing_completed cs core.contexts.len (omega (arith, core.contexts.ok.0, length-contexts core.contexts.items))
    ∙ ap (λ (b : Bool). if b then ended else going) (sym c.is_empty.ensures)
