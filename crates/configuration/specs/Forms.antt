-- The forms of the configuration box, each by the number of its version.
use Rattle.std.specs.Prelude.{ℕ, cond, Some, None, Option, ◌==◌}
use Rattle.configuration.specs.declared.form.Form.{Form}
use Rattle.configuration.specs.declared.form.Form.TheVariants.{Long, Short}

abbrev pub form_of : ℕ → Option Form
form_of n = cond (n == 0) (Some Long) (cond (n == 1) (Some Short) None)

abbrev pub form_number : Form → ℕ
form_number Long = 0
form_number Short = 1
