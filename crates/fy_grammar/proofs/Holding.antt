-- What holds of what was read, or else of the fault, through the combinators of reading.
use Rattle.std.proofs.Common.{◌≡◌, Bool, true, false, List, refl}
use Rattle.std.specs.Prelude.{Option, Some, None, Result, Ok, Err, if◌then◌else◌}
use Rattle.fy_base.specs.declared.data.BinOp.{BinOp}
use Rattle.fy_lexer.specs.declared.token.Token.{Token}
use Rattle.fy_syntax.specs.Reader.{Fault, Read, ◌>>=◌, mapped, nested, link_step}

-- P of what was read, or Q of the fault
abbrev pub Holds : {A : Type 0} → (A → Type 0) → (Fault → Type 0) → Result A Fault → Type 0
Holds P Q (Ok x) = P x
Holds P Q (Err e) = Q e

pub holds_bind : {A B : Type 0} (P : A → Type 0) (Q : Fault → Type 0) (R : B → Type 0) (r : Result A Fault) (f : A → Result B Fault) →
    Holds P Q r → ((x : A) → P x → Holds R Q (f x)) → Holds R Q (r >>= f)
holds_bind P Q R (Ok x) f h go = go x h
holds_bind P Q R (Err e) f h go = h

pub holds_mapped : {A B : Type 0} (P : A × List Token → Type 0) (Q : Fault → Type 0) (R : B × List Token → Type 0) (f : A → B) (r : Read A) →
    Holds P Q r → ((x : A × List Token) → P x → R (f x.0, x.1)) → Holds R Q (mapped f r)
holds_mapped P Q R f (Ok x) h go = go x h
holds_mapped P Q R f (Err e) h go = h

pub holds_if : {A : Type 0} (P : A → Type 0) (Q : Fault → Type 0) (b : Bool) (x y : Result A Fault) →
    (b ≡ true → Holds P Q x) → (b ≡ false → Holds P Q y) → Holds P Q (if b then x else y)
holds_if P Q true x y h k = h refl
holds_if P Q false x y h k = k refl

pub holds_nested : {A B : Type 0} (P : B → Type 0) (Q : Fault → Type 0) (o : Option A) (here : List Token) (go : A → Result B Fault) →
    Q (Fault.deep here) → ((g : A) → o ≡ Some g → Holds P Q (go g)) → Holds P Q (nested o here go)
holds_nested P Q None here go h k = h
holds_nested P Q (Some g) here go h k = k g refl

pub holds_link : {A : Type 0} (P : A × List Token → Type 0) (Q : Fault → Type 0) (o : Option BinOp) (go : BinOp → Read A) (stop : Read A) →
    ((op : BinOp) → o ≡ Some op → Holds P Q (go op)) → Holds P Q stop → Holds P Q (link_step o go stop)
holds_link P Q None go stop h k = k
holds_link P Q (Some op) go stop h k = h op refl

-- what holds of what was read, where that is known
pub holds_ok : {A : Type 0} (P : A → Type 0) (Q : Fault → Type 0) (r : Result A Fault) (x : A) → r ≡ Ok x → Holds P Q r → P x
holds_ok P Q (Ok y) x e h = rw (let s : x ≡ y = cc in s) h
holds_ok P Q (Err e) x s h = absurd cc

pub holds_err : {A : Type 0} (P : A → Type 0) (Q : Fault → Type 0) (r : Result A Fault) (x : Fault) → r ≡ Err x → Holds P Q r → Q x
holds_err P Q (Ok y) x e h = absurd cc
holds_err P Q (Err e) x s h = rw (let s : x ≡ e = cc in s) h
