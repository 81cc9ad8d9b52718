use Rattle.std.proofs.Common.{◌≡◌, ◌*◌, ◌<◌, ◌≤◌, [], ◌∷◌, sym, ap, ◌∙◌, subst, arith}
use Rattle.fy_image.specs.Form.{double}
use Rattle.fy_elf.specs.Elf.{segment_start}
use Rattle.fy_elf.specs.Refusals.{stack_counted, size_of}
use Rattle.fy_elf.specs.declared.counted.Counted.{Counted}
use Rattle.fy_elf.specs.declared.number.Number.TheVariants.{Double}
use Rattle.fy_elf.proofs.Taking.{taken_as}
use Rattle.fy_elf.proofs.Segments.{stack_size, stack_taken}
use Rattle.fy_elf.proofs.read.stack.Goals as goal

pub sized-requires : goal.sized-requires
unfolding stack_counted
sized-requires c = let P : Counted → Type 0 = λ k. 0 < k.unit in subst P (sym c.stack_counted.ensures) (omega arith)

pub returns-clause-taken : goal.returns-clause-taken
returns-clause-taken c =
    let n = c.in_ok-count.count in
    let size : size_of c.stack_counted.result n ≡ 8 * n = ap (λ k. size_of k n) c.stack_counted.ensures ∙ stack_size n in
    let start = c.segment_start.ensures ∙ ap segment_start c.stack_segment-stack.ensures in
    let behind = ap (λ s. Double s.alignment ∷ []) c.stack_segment-stack.ensures in
    stack_taken (8 * n) _ _ _ _ _ _ _ start behind c.in_ok-exacts.ensures.taken c.in_ok-exacts-2.ensures.taken (taken_as _ _ _ _ (ap (λ k. double k) size) c.in_ok-count.ensures.taken) c.in_ok-exacts-3.ensures.taken

pub returns-clause-range : goal.returns-clause-range
unfolding stack_counted
returns-clause-range c = let P : Counted → Type 0 = λ k. (k.least ≤ c.in_ok-count.count) × (c.in_ok-count.count ≤ k.most) in subst P c.stack_counted.ensures c.in_ok-count.ensures.range
