-- What the options of a line say.
use Rattle.std.specs.Prelude.{◌&&◌, ℕ, Bool, false, List, Option, None, is_some, not, option_map}
use Rattle.infer_label.specs.declared.options.Form.{Form}
use Rattle.infer_label.specs.declared.options.Form.TheVariants.{Text}
use Rattle.infer_label.specs.declared.options.Look.{Look}
use Rattle.infer_label.specs.declared.options.Look.TheVariants.{NameAndBytes}
use Rattle.infer_label.specs.declared.options.Options as code

-- what an input is told by, how its line is written, the text of the types that are asked before all others, the content type
-- that a browser was told, whether it is told why the bytes have their answer, whether the name is left out, and how many
-- bytes the file has, if that is told
pub record Options : Type 0 where
  pub look : Look
  pub form : Form
  pub own : Option (List ℕ)
  pub content_type : Option (List ℕ)
  pub why : Bool
  pub is_unnamed : Bool
  pub size : Option ℕ

-- what is so if nothing else is asked for
abbrev pub default_options : Options
default_options = record { look = NameAndBytes; form = Text; own = None; content_type = None; why = false; is_unnamed = false; size = None }

-- reasons are told if they are asked for; of types of one's own there are none
abbrev pub gives_why : Options → Bool
gives_why o = o.why && not (is_some o.own)

-- the options as the code has them
abbrev pub options_listed : code.Options → Options
options_listed o = record {
  look = o.look;
  form = o.form;
  own = option_map (λ t. t.now) o.own;
  content_type = option_map (λ t. t.now) o.content_type;
  why = o.why;
  is_unnamed = o.is_unnamed;
  size = o.size;
}
