use Rattle.std.proofs.Common.{◌≡◌, ◌∙◌, sym, ap, subst, ◌<◌, length, Some}
use Rattle.std.specs.Option.{option_map}
use Rattle.top_call.specs.Passed.{file_shown, file_of, HasSome}
use Rattle.top_call.proofs.Cuts.{cut_short, weaker_err}
use Rattle.top_call.proofs.passing.write_out.Goals as goal

pub returns-in-Some-clause-cut : goal.returns-in-Some-clause-cut
returns-in-Some-clause-cut g c =
    let shown : file_of c.args.passing.now ≡ Some (file_shown c.in-Some.file) = ap (option_map file_shown) c.in-Some.is in
    let file : file_of c.args.passing.now ≡ Some (record { name = c.text.result.now; bytes = c.deref.result.now }) =
    shown ∙ (λ i. Some (record { name = sym c.text.ensures i; bytes = sym c.deref.ensures.value i })) in
    let some : 0 < length c.deref.result.now = subst HasSome file c.requires.some in
    weaker_err _ _ c.write_all.result (λ given h s t. cut_short (file_of c.args.passing.now) c.text.result.now c.deref.result.now given s _ file some (h s t)) c.write_all.ensures.cut
