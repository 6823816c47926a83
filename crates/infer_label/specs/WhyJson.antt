-- Why bytes have their answer, as a member of an object of JSON.
use Rattle.std.specs.Prelude.{ℕ, Bool, true, false, List, [], ◌++◌, Option, None, Some, codes, ◌==◌, if◌then◌else◌, map}
use Rattle.std.specs.Fmt.{decimal}
use Rattle.std.specs.List.{flat_map}
use Rattle.infer.specs.Triple.{Triple}
use Rattle.infer_more.specs.Wider.{shown_at}
use Rattle.infer_label.specs.Names.{byte_hex}
use Rattle.infer_label.specs.Why.{Reason, Why}
use Rattle.infer_label.specs.WhyText.{in_row}

-- the extension of a row, and null of none
abbrev pub extension_value : Option Triple → List ℕ
extension_value None = codes "null"
extension_value (Some t) = codes "\"" ++ (t.extension ++ codes "\"")

abbrev pub bool_value : Bool → List ℕ
bool_value true = codes "true"
bool_value false = codes "false"

-- bytes that tell: null if they stand apart, and else each; and the row of which they do
abbrev pub bytes_value : Reason → List ℕ
bytes_value r = if r.step == 1 then codes "\"" ++ (flat_map byte_hex r.bytes ++ codes "\"") else codes "null"

abbrev pub bytes_members : Reason → List ℕ
bytes_members r =
    codes "{\"place\":" ++ (decimal r.place ++ (codes ",\"length\":" ++ (decimal r.len ++ (codes ",\"step\":" ++ (decimal r.step ++ (codes ",\"bytes\":" ++ bytes_value r))))))

abbrev pub accepts_member : Bool → List ℕ
accepts_member accepts = codes ",\"accepts\":" ++ (bool_value accepts ++ codes "}")

abbrev pub row_members : Reason → List ℕ
row_members r = codes ",\"extension\":" ++ (extension_value (shown_at r.row) ++ accepts_member r.accepts)

abbrev pub range_object : Reason → List ℕ
range_object r = bytes_members r ++ row_members r

-- the answer, all ranges, and what is needed of the length
abbrev pub answer_member : Option ℕ → List ℕ
answer_member row = codes ",\"why\":{\"answer\":" ++ extension_value (shown_at row)

abbrev pub ranges_member : List Reason → List ℕ
ranges_member reasons = codes ",\"ranges\":[" ++ in_row (codes ",") false (map range_object reasons)

abbrev pub length_members : Why → List ℕ
length_members why =
    codes "],\"least\":" ++ (decimal why.least ++ (codes ",\"exact\":" ++ (bool_value why.is_exact ++ (codes ",\"whole\":" ++ (bool_value why.is_whole ++ codes "}")))))

abbrev pub why_object : Why → List ℕ
why_object why = answer_member why.answer ++ (ranges_member why.reasons ++ length_members why)

abbrev pub why_member : Option Why → List ℕ
why_member None = []
why_member (Some why) = why_object why
