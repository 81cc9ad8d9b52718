-- What the program's values stand for where a phrase is shown.
use Rattle.std.specs.Prelude.{ℕ, List, [], ◌∷◌, map, Option, Some, None}
use Rattle.std.specs.Borrow.{Bor}
use Rattle.fy_base.specs.Outside.{Bytes}
use Rattle.fy_types.specs.Types.{PlainType}
use Rattle.fy_types.specs.Reading.{plain_type}
use Rattle.fy_phrase.specs.Tree.{Tree}
use Rattle.fy_show.specs.declared.entries.FieldText.{FieldText}
use Rattle.fy_show.specs.declared.entries.EntryText.{EntryText}
use Rattle.fy_show.specs.declared.entries.EntryText.TheVariants as text
use Rattle.fy_show.specs.declared.entries.ScopeTexts.{ScopeTexts, ScopeTexts-F, fold-ScopeTexts}
use Rattle.fy_show.specs.declared.entries.KnownNames.{KnownNames}
use Rattle.fy_show.specs.declared.view.View.{View}
use Rattle.fy_show.specs.declared.fields.DeclaredField.{DeclaredField}
use Rattle.fy_show.specs.Entries.{Fields, Entry, unnamed, one, all, Scope, Known}
use Rattle.fy_show.specs.Texts.{Shown, form, part}

-- the fields with their names
abbrev pub fields_read : List FieldText → Fields
fields_read = map (λ f. (f.field, f.text.items))

abbrev pub entry_read : EntryText → Entry
entry_read text.Unnamed = unnamed
entry_read (text.One x) = one x.items
entry_read (text.All fs) = all (fields_read fs.items)

-- a variable past the end of the scope has no name
abbrev pub entry_or : Option (Bor EntryText) → Entry
entry_or None = unnamed
entry_or (Some e) = entry_read e.now

abbrev pub scope_step : ScopeTexts-F Scope → Scope
scope_step ScopeTexts-F.Empty = []
scope_step (ScopeTexts-F.Unnamed outer) = unnamed ∷ outer.now
scope_step (ScopeTexts-F.Inside e outer) = entry_read e.now ∷ outer.now

-- the variables in scope, the innermost first
abbrev pub scope_read : ScopeTexts → Scope
scope_read = fold-ScopeTexts Scope scope_step

-- no phrase is folded, and marks have no names
abbrev pub known_read : KnownNames → Known
known_read k = record { names = k.names.now; binders = k.binders.now; folded = λ p. None; marks = λ m. [] }

-- the declared fields with their types
abbrev pub declared_read : List DeclaredField → List (ℕ × PlainType)
declared_read = map (λ d. (d.field, plain_type d.ty.now))

abbrev pub known_in : View → Known
known_in v = known_read v.known.now

abbrev pub scope_in : View → Scope
scope_in v = scope_read v.scope.now

-- what a phrase is shown as in a view, its text there, and `[p:l]`
abbrev pub shown_in : View → Tree → Shown
shown_in v p = form (known_in v) (scope_in v) p

abbrev pub text_in : View → Tree → Bytes
text_in v p = (shown_in v p).1 v.manner

abbrev pub part_in : View → ℕ → Tree → Bytes
part_in v l p = part v.manner l (shown_in v p)
