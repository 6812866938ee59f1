-- The refusal for want of memory.
use Rattle.record_json.specs.declared.fail.JsonFail.{JsonFail}
use Rattle.record_json.specs.declared.fail.JsonFail.TheVariants.{NoMemory}

abbrev pub memory_wanted : JsonFail
memory_wanted = NoMemory
