use Rattle.fy_derive.specs.Shapes.{at_end, a_call, a_field, a_value, an_assignment}
use Rattle.pe_gen.proofs.StepLemmas.{number-found}
use Rattle.pe_gen.proofs.steps.sequence_shapes.Goals as goal

pub returns : goal.returns
returns c =
    let table = c.args.table.now in
    let shapes = c.as_slice-shapes.result.now in record {
      value = number-found table shapes c.number_of-value.result (at_end a_value) c.as_slice-shapes.ensures c.requires.once c.number_of-value.ensures;
      element = number-found table shapes c.number_of-element.result (a_call (at_end a_value)) c.as_slice-shapes.ensures c.requires.once c.number_of-element.ensures;
      assigned_element = number-found table shapes c.number_of-assigned_element.result (a_call (at_end an_assignment)) c.as_slice-shapes.ensures c.requires.once c.number_of-assigned_element.ensures;
      row_length = number-found table shapes c.number_of-row_length.result (a_field 0 (at_end a_value)) c.as_slice-shapes.ensures c.requires.once c.number_of-row_length.ensures;
    }
