-- What the objects hold, step by step.
use Rattle.std.proofs.Common.{◌≡◌, [], ◌++◌, sym, ap, ◌∙◌, refl, append_assoc, Some, None}
use Rattle.std.proofs.lemmas.List.{append-nil}
use Rattle.std.specs.declared.option.Option.{Option}
use Rattle.fy_base.specs.Outside.{Bytes, appended, Gained, GainedPart}

pub appended-appended : (held : Option Bytes) (x y : Bytes) → appended (appended held x) y ≡ appended held (x ++ y)
appended-appended None x y = refl
appended-appended (Some h) x y = ap (λ t. Some t) (append_assoc h x y)

pub appended-nil : (held : Option Bytes) → appended held [] ≡ held
appended-nil None = refl
appended-nil (Some h) = ap (λ t. Some t) (append-nil h)

-- nothing is a beginning of any bytes, and all of them are one
pub nothing : (held : Option Bytes) (bytes : Bytes) → GainedPart held held bytes
nothing held bytes = record { part = []; gained = sym (appended-nil held); begins = record { rest = bytes; is = refl } }

pub all_gained : (held : Option Bytes) (bytes : Bytes) → GainedPart held (appended held bytes) bytes
all_gained held bytes = record { part = bytes; gained = refl; begins = record { rest = []; is = sym (append-nil bytes) } }

-- two gains, one after another
pub gained_both : (b c d : Option Bytes) (x y : Bytes) → Gained b c x → Gained c d y → Gained b d (x ++ y)
gained_both b c d x y g h = h ∙ ap (λ c. appended c y) g ∙ appended-appended b x y
