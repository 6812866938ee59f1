-- What a refusal below is called here.
use Rattle.http_wire.specs.declared.fail.HttpFail.{HttpFail}
use Rattle.http_wire.specs.declared.fail.HttpFail.TheVariants as http
use Rattle.record_json.specs.declared.fail.JsonFail.{JsonFail}
use Rattle.record_json.specs.declared.fail.JsonFail.TheVariants as json
use Rattle.sync_wire.specs.declared.fail.AskFail.{AskFail}
use Rattle.sync_wire.specs.declared.fail.AskFail.TheVariants.{LinkFault, PeerForm, NoMemory}

abbrev pub memory_wanted : AskFail
memory_wanted = NoMemory

abbrev pub link_failed : AskFail
link_failed = LinkFault

abbrev pub reply_refused : HttpFail → AskFail
reply_refused http.ReadFault = LinkFault
reply_refused http.NoMemory = NoMemory
reply_refused _ = PeerForm

abbrev pub body_refused : JsonFail → AskFail
body_refused json.NoMemory = NoMemory
body_refused _ = PeerForm
