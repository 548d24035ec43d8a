-- What the code's values of forms of lines stand for.
use Rattle.debug_lines.specs.Topics.{LineForm}
use Rattle.debug_lines.specs.declared.topic.LineForm.{LineForm as LineFormCode}

abbrev pub form_value : LineFormCode → LineForm
form_value form = record { operands = form.operands.now; purpose = form.purpose.now; sessions = form.sessions }
