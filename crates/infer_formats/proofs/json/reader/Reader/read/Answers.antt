use Rattle.infer_formats.proofs.Common.{First, Value, Key, Colon, After}
use Rattle.infer_formats.proofs.ReaderLemmas.{reads_between}
use Rattle.infer_formats.proofs.json.reader.Reader.read.Goals as goal

pub returns-in-First : goal.returns-in-First
returns-in-First c =
    let s = c.args.self.now in
    reads_between c.args.due First s.depth s.kinds _ _ _ c.in-First.is c.requires.black c.read_first.ensures

pub returns-in-Value : goal.returns-in-Value
returns-in-Value c =
    let s = c.args.self.now in
    reads_between c.args.due Value s.depth s.kinds _ _ _ c.in-Value.is c.requires.black c.read_value.ensures

pub returns-in-Key : goal.returns-in-Key
returns-in-Key c =
    let s = c.args.self.now in
    reads_between c.args.due Key s.depth s.kinds _ _ _ c.in-Key.is c.requires.black c.read_key.ensures

pub returns-in-Colon : goal.returns-in-Colon
returns-in-Colon c =
    let s = c.args.self.now in
    reads_between c.args.due Colon s.depth s.kinds _ _ _ c.in-Colon.is c.requires.black c.read_colon.ensures

pub returns-in-After : goal.returns-in-After
returns-in-After c =
    let s = c.args.self.now in
    reads_between c.args.due After s.depth s.kinds _ _ _ c.in-After.is c.requires.black c.read_after.ensures
