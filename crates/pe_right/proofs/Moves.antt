-- How a step of the machine goes with steps of the copy rule.
use Rattle.std.proofs.Common.{ℕ, suc, ◌+◌, ◌*◌, ◌<◌, ◌≤◌, ◌≡◌, List, [], ◌∷◌, length, Option, Some, None, refl, ap, inl, arith}
use Rattle.fy_base.specs.declared.data.Place.{Place}
use Rattle.fy_base.specs.declared.data.FaultKind.{FaultKind}
use Rattle.fy_base.specs.Outside.{Bytes}
use Rattle.fy_types.specs.Paths.{PlainPath, PlainPaths}
use Rattle.fy_phrase.specs.Tree.{Tree, var, lit, skip}
use Rattle.fy_phrase.specs.Contexts.{CopyContext}
use Rattle.fy_phrase.specs.Closing.{closed_with}
use Rattle.fy_phrase.specs.Copy.{CopyState, copy_step}
use Rattle.fy_phrase.specs.Copy as copy
use Rattle.fy_derive.specs.Shapes.{erase}
use Rattle.pe_machine.specs.States.{Pointer, Thunk, to_thunk, Frame, Focus, code_at, value, completed, PeContext, PeState}
use Rattle.pe_machine.specs.Step.{PeMove, goes, puts, takes, faults, focus_on, push, bind}
use Rattle.pe_right.specs.Closing.{closed_by}
use Rattle.pe_right.specs.Right.{is_variable, Enters}
use Rattle.pe_right.proofs.ClosingLemmas.{closed_with-more}
use Rattle.pe_right.proofs.FrameLemmas.{marks_in, oldest-all}
use Rattle.pe_right.proofs.Merges.{spare}
use Rattle.pe_right.proofs.Invariants.{Compiled, marked, rank_of, Answered, IsBody, FramesAnswer, ThunkAnswers, ContextTakes, CodeAnswers, Behind, Simulates, Fills}
use Rattle.pe_right.proofs.Growing.{env-shut}
use Rattle.pe_right.proofs.NodeLemmas.{body-bound}
use Rattle.pe_right.specs.Entered.{another}
use Rattle.pe_right.proofs.ContextLemmas.{contexts-pushed, contexts-newer}

pub rank-two : (q : Tree) → rank_of q ≤ 2
rank-two (var k at) = omega arith
rank-two (lit v at) = omega arith
rank-two (skip at) = omega arith
rank-two q = omega arith

pub rank-one : (q : Tree) → is_variable q ≡ None → rank_of q ≤ 1
rank-one (var k at) e = absurd cc
rank-one (lit v at) e = omega arith
rank-one (skip at) e = omega arith
rank-one q e = omega arith

-- steps of the copy rule that neither put nor take
pub data Steps : ℕ → CopyState → CopyState → Type 0 where
  no_step : {c : CopyState} → Steps 0 c c
  and_step : {j : ℕ} {c d e : CopyState} → copy_step c ≡ copy.goes d → Steps j d e → Steps (suc j) c e

-- x at a datum, and where a command is finished in some frame; else nothing
abbrev pub at_rest_in : ℕ → List Frame → Focus → ℕ
at_rest_in x fs (code_at p) = 0
at_rest_in x fs (value v) = x
at_rest_in x [] completed = 0
at_rest_in x (f ∷ fs) completed = x

-- what a phrase in focus does
pub focus-step : (c : CopyState) (q : Tree) → c.focus ≡ q → copy_step c ≡ copy.step_at q c
focus-step c q e = ap (λ (p : Tree). copy.step_at p c) e

module _ (g : Compiled) where
  -- how many steps of the copy rule more may go with one that enters a constant's datum
  abbrev pub extra : ℕ
  extra = 2 * spare g.phrase

  -- at most b steps of the copy rule go with the machine's, and x more where it comes to a datum or, in a frame, to a finished command; where none does, the rank falls below r
  pub data MovesIn (x : ℕ) : (r b : ℕ) → CopyState → PeMove → Type 0 where
    goes_on : {r b j : ℕ} {m : PeState} {c d : CopyState} (s : ℕ) → Steps j c d → j ≤ b + at_rest_in x m.frames m.focus → (j ≡ 0 → s < r) → s ≤ 2 → Simulates g s m d → MovesIn x r b c (goes m)
    -- on to a state in which a sequence is filled
    fills : {r b j : ℕ} {m : PeState} {c d : CopyState} → Steps j c d → j ≤ b → 1 ≤ j → Fills g m d → MovesIn x r b c (goes m)
    takes_byte : {r b j : ℕ} {go : Option ℕ → PeState} {c d : CopyState} (to : Option ℕ → CopyState) → Steps j c d → suc j ≤ b → copy_step d ≡ copy.takes to →
        ((byte : Option ℕ) → Simulates g 2 (go byte) (to byte)) → MovesIn x r b c (takes go)

  abbrev pub Moves : (r b : ℕ) → CopyState → PeMove → Type 0
  Moves r b c m = MovesIn 0 r b c m

  pub data IsFollowedIn (x : ℕ) : (r b : ℕ) → CopyState → PeMove → Type 0 where
    by_moves : {r b : ℕ} {c : CopyState} {m : PeMove} → MovesIn x r b c m → IsFollowedIn x r b c m
    puts_text : {r b : ℕ} {text : Bytes} {m : PeState} {c d : CopyState} → 1 ≤ b → copy_step c ≡ copy.puts text d → Simulates g 2 m d → IsFollowedIn x r b c (puts text m)
    faults_at : {r b : ℕ} {kind : FaultKind} {at : Place} {c : CopyState} → 1 ≤ b → copy_step c ≡ copy.faults kind at → IsFollowedIn x r b c (faults kind at)
    faults_within : {r b j : ℕ} {kind : FaultKind} {at : Place} {c d : CopyState} → Steps j c d → suc j ≤ b + x → copy_step d ≡ copy.faults kind at → c.load ≤ d.load → IsFollowedIn x r b c (faults kind at)

  abbrev pub IsFollowed : (r b : ℕ) → CopyState → PeMove → Type 0
  IsFollowed r b c m = IsFollowedIn 0 r b c m

  -- how many steps of the copy rule more may go with an instruction that is executed in a frame
  abbrev pub more_in : Option ℕ → ℕ
  more_in None = 0
  more_in (Some n) = spare g.phrase

  -- an instruction is executed: the machine faults before a phrase within which the copy rule faults, and goes on with a datum that the copy rule comes to after some steps, y more than b at most
  pub data IsExecuted (x y : ℕ) : (r b : ℕ) → CopyState → PeMove → Type 0 where
    by_steps : {r b : ℕ} {c : CopyState} {m : PeMove} → MovesIn x r b c m → IsExecuted x y r b c m
    fails_within : {r b j : ℕ} {kind : FaultKind} {at : Place} {c d : CopyState} → Steps j c d → suc j ≤ b + x → copy_step d ≡ copy.faults kind at → c.load ≤ d.load → IsExecuted x y r b c (faults kind at)
    meets_after : {r b j : ℕ} {m : PeMove} {c d : CopyState} → Steps j c d → 1 ≤ j → suc (suc j) ≤ b + y → c.load ≤ d.load → IsFollowed 2 2 d m → IsExecuted x y r b c m

  pub one_move : {x r b : ℕ} {m : PeState} {c d : CopyState} → copy_step c ≡ copy.goes d → 1 ≤ b → Simulates g 2 m d → MovesIn x r b c (goes m)
  one_move e l t = goes_on 2 (and_step e no_step) (omega arith) (λ z. absurd (omega arith)) (omega arith) t

  pub one_step : {x r b : ℕ} {m : PeState} {c d : CopyState} → copy_step c ≡ copy.goes d → 1 ≤ b → Simulates g 2 m d → IsFollowedIn x r b c (goes m)
  one_step e l t = by_moves (one_move e l t)

  -- a silent step of the machine
  pub no_move : {x r b : ℕ} {m : PeState} {c : CopyState} (s : ℕ) → s < r → s ≤ 2 → Simulates g s m c → MovesIn x r b c (goes m)
  no_move s l k t = goes_on s no_step (omega arith) (λ z. l) k t

  pub earlier : {x r s b : ℕ} {m : PeMove} {c d : CopyState} → copy_step c ≡ copy.goes d → MovesIn x r b d m → MovesIn x s (suc b) c m
  earlier e (goes_on s x l z w t) = goes_on s (and_step e x) (omega arith) (λ f. absurd (omega arith)) w t
  earlier e (fills x l k t) = fills (and_step e x) (omega arith) (omega arith) t
  earlier e (takes_byte to x l f t) = takes_byte to (and_step e x) (omega arith) f t

  pub moves-weaker : {x r s a b : ℕ} {m : PeMove} {c : CopyState} → r ≤ s → a ≤ b → MovesIn x r a c m → MovesIn x s b c m
  moves-weaker q l (goes_on s x k z w t) = goes_on s x (omega arith) (λ f. let y = z f in omega arith) w t
  moves-weaker q l (fills x k z t) = fills x (omega arith) z t
  moves-weaker q l (takes_byte to x k f t) = takes_byte to x (omega arith) f t

  pub followed-weaker : {x r s a b : ℕ} {m : PeMove} {c : CopyState} → r ≤ s → a ≤ b → IsFollowedIn x r a c m → IsFollowedIn x s b c m
  followed-weaker q l (by_moves x) = by_moves (moves-weaker q l x)
  followed-weaker q l (puts_text k e t) = puts_text (omega arith) e t
  followed-weaker q l (faults_at k e) = faults_at (omega arith) e
  followed-weaker q l (faults_within x k e t) = faults_within x (omega arith) e t

  pub executed-weaker : {x y r s a b : ℕ} {m : PeMove} {c : CopyState} → r ≤ s → a ≤ b → IsExecuted x y r a c m → IsExecuted x y s b c m
  executed-weaker q l (by_steps x) = by_steps (moves-weaker q l x)
  executed-weaker q l (fails_within x k e t) = fails_within x (omega arith) e t
  executed-weaker q l (meets_after x some k up t) = meets_after x some (omega arith) up t

  pub executed-earlier : {x y r s b : ℕ} {m : PeMove} {c d : CopyState} → copy_step c ≡ copy.goes d → c.load ≤ d.load → IsExecuted x y r b d m → IsExecuted x y s (suc b) c m
  executed-earlier e up (by_steps x) = by_steps (earlier e x)
  executed-earlier e up (fails_within x k f t) = fails_within (and_step e x) (omega arith) f (omega arith)
  executed-earlier e up (meets_after x some k over t) = meets_after (and_step e x) (omega arith) (omega arith) (omega arith) t

  -- ---- words of the table

  pub pushed-behind : (s : PeState) (c : CopyState) (P Q : PlainPath) (k : PeContext) (x : CopyContext) → marks_in s.frames ≡ marked k (marks_in s.frames) →
      ContextTakes g s.frames k x P Q → Behind g s c Q → Behind g (push k s) (copy.push x c) P
  pushed-behind s c P Q k x m h b = (
    contexts-pushed g s.frames s.frames (length s.frames) k x s.load c.load s.contexts c.contexts P Q (oldest-all (length s.frames) s.frames (omega arith)) (omega arith) m b.4 h b.0,
    b.1,
    b.2,
    b.3,
    ap (λ (n : ℕ). n + 8) b.4,
  )

  pub pushed-simulates : (s : PeState) (c : CopyState) (P Q : PlainPath) (k : PeContext) (x : CopyContext) (p : Pointer) (q : Tree) →
      marks_in s.frames ≡ marked k (marks_in s.frames) → CodeAnswers g s.frames p q P → ContextTakes g s.frames k x P Q → Behind g s c Q →
      Simulates g 2 (focus_on (code_at p) (push k s)) (copy.focus_on q (copy.push x c))
  pushed-simulates s c P Q k x p q m a h b = (P, (a, rank-two a.1), pushed-behind s c P Q k x m h b)

  -- a thunk is bound
  pub bound-simulates : (s : PeState) (c : CopyState) (d y : ℕ) (r : Option ℕ) (t : Thunk) (q : Tree) (D : PlainPaths) (b : Tree) (k : ℕ) (qs : List Tree) (G : List PlainPaths) (P : PlainPath) →
      ThunkAnswers g s.frames t q D → FramesAnswer g s.frames r qs G → IsBody g s.frames r another (length G) k b → Answered g (D ∷ G) k b P → Enters g.table g.code k (erase P) y → Behind g s c P →
      Simulates g 2 (focus_on (code_at (record { address = y; frame = Some s.next })) (bind d (to_thunk t) r s)) (copy.focus_on (closed_with (closed_by 1 qs b) q) (copy.bind d c))
  bound-simulates s c d y r t q D b k qs G P th env n a e h = (
    P,
    (
      (k, b, q ∷ qs, D ∷ G, body-bound g (record { number = s.next; depth = d; binding = to_thunk t; around = r }) tt n, a, e, inl_here th env, closed_with-more b q qs (env-shut g s.frames r qs G env)),
      rank-two b,
    ),
    (
      contexts-newer g (record { number = s.next; depth = d; binding = to_thunk t; around = r }) s.frames refl s.contexts c.contexts P h.0,
      h.1,
      (omega arith, h.2),
      ap (λ (n : ℕ). n + 1) h.3,
      ap (λ (n : ℕ). n + (8 + d)) h.4,
    ),
  )
    where
      inl_here : ThunkAnswers g s.frames t q D → FramesAnswer g s.frames r qs G → FramesAnswer g ((record { number = s.next; depth = d; binding = to_thunk t; around = r }) ∷ s.frames) (Some s.next) (q ∷ qs) (D ∷ G)
      inl_here th env = inl (refl, (q, qs, D, G, refl, refl, th, env))
