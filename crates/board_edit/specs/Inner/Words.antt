-- The forms of words, as the definition of a line has them.
use Rattle.edit_language.specs.Forms as forms
use Rattle.board_edit.specs.declared.form.Form.{Form}
use Rattle.board_edit.specs.declared.form.Form.TheVariants.{Length, Size, Whole, Name}

-- each is the form of its name
abbrev pub meant : Form → forms.Form
meant Length = forms.Length
meant Size = forms.Size
meant Whole = forms.Whole
meant Name = forms.Name
