use Rattle.std.proofs.Common.{◌≡◌, ℕ, None, ap, sym, subst, arith, is_some, if◌then◌else◌}
use Rattle.std.specs.FinMap.{get}
use Rattle.fy_base.specs.Outside.{Rose}
use Rattle.fy_base.specs.Memory.{folder_of, misses_of}
use Rattle.fy_base.proofs.Folders.{older_none}
use Rattle.fy_base.proofs.memory.SteadyFilesFiles.fetch.Goals as goal

pub returns-in-None-clause-missing : goal.returns-in-None-clause-missing
returns-in-None-clause-missing c = λ _.
    let made = c.args.self.now.made_with.items in
    let name = c.args.name.now in
    let none : get (folder_of made) name ≡ None =
    older_none c.args.self.now.kept.items made name (rw (c.as_slice.ensures.value, c.as_slice-2.ensures.value) at c.in-None.ensures) in
    let counts = λ (n : ℕ). ap (λ o. if is_some o then 0 else n) none in
    let before : misses_of (folder_of made) c.args.self.now.misses name ≡ c.args.self.now.misses = counts c.args.self.now.misses in
    let now : misses_of (folder_of made) c.saturating_add-self-in-None.result name ≡ c.saturating_add-self-in-None.result = counts c.saturating_add-self-in-None.result in
    let risen : Rose c.args.self.now.misses c.saturating_add-self-in-None.result = omega arith in
    subst (λ n. Rose n (misses_of (folder_of made) c.saturating_add-self-in-None.result name)) (sym before) (subst (λ n. Rose c.args.self.now.misses n) (sym now) risen)
