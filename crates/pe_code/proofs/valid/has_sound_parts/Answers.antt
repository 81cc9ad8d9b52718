use Rattle.std.proofs.Common.{◌≡◌, [], ◌∷◌, ap, sym, subst, inl, inr}
use Rattle.std.specs.List.{All}
use Rattle.std.proofs.lemmas.List.Elements.{All-cons, All-tail}
use Rattle.pe_code.specs.Code.{beside}
use Rattle.pe_code.specs.Valid.{LeadsTo}
use Rattle.pe_code.proofs.valid.has_sound_parts.Goals as goal
use Rattle.pe_code.proofs.valid.has_sound_parts.Goals.{In-Op1, In-Op2}

pub returns-in-Cond : goal.returns-in-Cond
returns-in-Cond c = rw c.in-Cond.is c.all_lead.ensures

pub returns-then-leads_to : goal.returns-then-leads_to
returns-then-leads_to c =
    let P = LeadsTo c.args.code.now c.args.depth in
    rw c.in-Case.is (
      λ t. All-cons P c.in-Case.x c.in-Case.parts (c.leads_to.ensures.0 c.if-leads_to.true) (subst (All P) c.as_slice.ensures (c.all_lead-then-leads_to.ensures.0 t)),
      λ h. c.all_lead-then-leads_to.ensures.1 (subst (All P) (sym c.as_slice.ensures) (All-tail P c.in-Case.x c.in-Case.parts h)),
    )

one_part : (c : In-Op1) → beside c.args.insn.now ≡ c.in-Op1.x ∷ []
one_part c = elim c.in-Op1.is [
  | inl op1 ↦ ap beside op1.1
  | inr a ↦ elim a [
    | inl pass ↦ ap beside pass.1
    | inr b ↦ elim b [
      | inl pass_var ↦ ap beside pass_var.1
      | inr m ↦ elim m [
        | inl pass_data ↦ ap beside pass_data.1
        | inr d ↦ elim d [
          | inl field ↦ ap beside field.1
          | inr e ↦ elim e [
            | inl pick ↦ ap beside pick.1
            | inr f ↦ elim f [
              | inl loop ↦ ap beside loop
              | inr g ↦ elim g [
                | inl new ↦ ap beside new.1
                | inr k ↦ elim k [
                  | inl cells ↦ ap beside cells.1
                  | inr h ↦ elim h [
                    | inl put ↦ ap beside put.1
                    | inr read ↦ ap beside read
                  ]
                ]
              ]
            ]
          ]
        ]
      ]
    ]
  ]
]

two_parts : (c : In-Op2) → beside c.args.insn.now ≡ c.in-Op2.x ∷ c.in-Op2.y ∷ []
two_parts c = elim c.in-Op2.is [
  | inl op2 ↦ ap beside op2.1
  | inr a ↦ elim a [
    | inl seq ↦ ap beside seq
    | inr b ↦ elim b [
      | inl assign ↦ ap beside assign
      | inr while ↦ ap beside while
    ]
  ]
]

pub returns-in-Op1 : goal.returns-in-Op1
returns-in-Op1 c = let parts = one_part (goal.at.returns-in-Op1 c).In-Op1 in rw parts c.all_lead-in-Op1.ensures

pub returns-in-Op2 : goal.returns-in-Op2
returns-in-Op2 c = let parts = two_parts (goal.at.returns-in-Op2 c).In-Op2 in rw parts c.all_lead-in-Op2.ensures

pub returns-in-EvalFor : goal.returns-in-EvalFor
returns-in-EvalFor c = rw c.in-EvalFor.is c.has_sound_purpose.ensures
