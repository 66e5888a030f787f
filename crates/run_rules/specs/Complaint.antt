-- The one line that a run complains. A kind is named by its own name.
use Rattle.std.specs.Prelude.{ℕ, List, [], ◌++◌}
use Rattle.std.specs.Fmt.{decimal}
use lib.Chars.{codes}
use Rattle.sexpr_text.specs.declared.error.TextKind.{TextKind}
use Rattle.sexpr_text.specs.declared.error.TextKind.TheVariants as texts
use Rattle.board_language.specs.declared.offence.OffenceKind.{OffenceKind}
use Rattle.board_language.specs.declared.offence.OffenceKind.TheVariants as offences
use Rattle.edit_language.specs.declared.edit.EditKind.{EditKind}
use Rattle.edit_language.specs.declared.edit.EditKind.TheVariants as edits
use Rattle.edit_language.specs.declared.edit.EditRefusal.{EditRefusal}
use Rattle.edit_language.specs.declared.edit.EditRefusal.TheVariants.{NoStamp, WrongKind, StampTaken, Breaks}
use Rattle.run_rules.specs.declared.ended.Ended.{Ended}
use Rattle.run_rules.specs.declared.ended.Ended.TheVariants.{Done, Usage, TooLong, BadText, Refused, BadScript, EditRefused, Unreadable, Unwritten, Unsaid, Memory}
use Rattle.run_rules.specs.declared.ended.Role.{Role}
use Rattle.run_rules.specs.declared.ended.Role.TheVariants.{In, Edits}

-- a fault of a text is called by its kind
abbrev pub text_kind : TextKind → List ℕ
text_kind texts.Empty = codes "Empty"
text_kind texts.BadString = codes "BadString"
text_kind texts.Unclosed = codes "Unclosed"
text_kind texts.StrayClose = codes "StrayClose"
text_kind texts.NotList = codes "NotList"
text_kind texts.After = codes "After"
text_kind texts.TooDeep = codes "TooDeep"
text_kind texts.BadUtf8 = codes "BadUtf8"

-- an offence is called by its kind alone, without what the kind holds
abbrev pub offence_kind : OffenceKind → List ℕ
offence_kind offences.NotBoard = codes "NotBoard"
offence_kind offences.Version = codes "Version"
offence_kind offences.CurvedTrack = codes "CurvedTrack"
offence_kind offences.CopperGraphic = codes "CopperGraphic"
offence_kind offences.FootprintEdge = codes "FootprintEdge"
offence_kind offences.FootprintZone = codes "FootprintZone"
offence_kind offences.EdgeCurve = codes "EdgeCurve"
offence_kind offences.Teardrop = codes "Teardrop"
offence_kind offences.HatchFill = codes "HatchFill"
offence_kind offences.Smoothing = codes "Smoothing"
offence_kind offences.IslandArea = codes "IslandArea"
offence_kind offences.ManyOutlines = codes "ManyOutlines"
offence_kind offences.PolygonArc = codes "PolygonArc"
offence_kind offences.PadType = codes "PadType"
offence_kind offences.PadShape = codes "PadShape"
offence_kind offences.PadOffset = codes "PadOffset"
offence_kind offences.MissingPart = codes "MissingPart"
offence_kind (offences.Number fault) = codes "Number"
offence_kind offences.Angle = codes "Angle"
offence_kind offences.BadSize = codes "BadSize"
offence_kind offences.Thin = codes "Thin"
offence_kind offences.DoubleLayer = codes "DoubleLayer"
offence_kind offences.UnknownLayer = codes "UnknownLayer"
offence_kind offences.DoubleNet = codes "DoubleNet"
offence_kind offences.UnknownNet = codes "UnknownNet"
offence_kind offences.DoubleStamp = codes "DoubleStamp"
offence_kind (offences.Outline fault) = codes "Outline"
offence_kind offences.TooMany = codes "TooMany"

-- a fault of a script is called by its kind
abbrev pub edit_kind : EditKind → List ℕ
edit_kind edits.TooLong = codes "TooLong"
edit_kind edits.BadWord = codes "BadWord"
edit_kind edits.TooFewWords = codes "TooFewWords"
edit_kind edits.TooManyWords = codes "TooManyWords"
edit_kind edits.BadNumber = codes "BadNumber"

-- a file is called as the usage line calls it
abbrev pub role_name : Role → List ℕ
role_name In = codes "IN"
role_name Edits = codes "EDITS"

-- the line on which something is wrong, and what
abbrev pub line_kind : ℕ → List ℕ → List ℕ
line_kind line kind = codes "line " ++ (decimal line ++ (codes ": " ++ (kind ++ codes "\n")))

-- why an edit is refused; where it breaks the board, on which line of the edited text and how
abbrev pub refusal_text : EditRefusal → List ℕ
refusal_text NoStamp = codes "NoStamp\n"
refusal_text WrongKind = codes "WrongKind\n"
refusal_text StampTaken = codes "StampTaken\n"
refusal_text (Breaks offence) = line_kind offence.line (offence_kind offence.kind)

-- what a run that ended so complains: one line, or nothing where it is done
abbrev pub complaint_of : Ended → List ℕ
complaint_of (Done unjoined) = []
complaint_of (Usage fault) = codes "zonefill: usage: fill IN OUT, refill IN EDITS OUT, report IN, generate SEED SIZE OUT\n"
complaint_of (TooLong role taken) = codes "zonefill: " ++ (role_name role ++ codes " is too long\n")
complaint_of (BadText fault) = codes "zonefill: byte " ++ (decimal fault.at ++ (codes ": " ++ (text_kind fault.kind ++ codes "\n")))
complaint_of (Refused offence) = codes "zonefill: " ++ line_kind offence.line (offence_kind offence.kind)
complaint_of (BadScript fault) = codes "zonefill: EDITS " ++ line_kind fault.line (edit_kind fault.kind)
complaint_of (EditRefused index refusal) = codes "zonefill: edit " ++ (decimal index ++ (codes ": " ++ refusal_text refusal))
complaint_of (Unreadable role) = codes "zonefill: " ++ (role_name role ++ codes " can't be read\n")
complaint_of (Unwritten given) = codes "zonefill: OUT was cut after " ++ (decimal given ++ codes " bytes\n")
complaint_of (Unsaid given) = codes "zonefill: report was cut after " ++ (decimal given ++ codes " bytes\n")
complaint_of Memory = codes "zonefill: out of memory\n"
