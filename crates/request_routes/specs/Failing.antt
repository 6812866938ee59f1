-- A body that isn't read, as a request that is refused.
use Rattle.record_json.specs.declared.fail.JsonFail.{JsonFail}
use Rattle.record_json.specs.declared.fail.JsonFail.TheVariants.{NotJson, NotRecords, NoMemory as json_memory}
use Rattle.request_routes.specs.declared.fail.RouteFail.{RouteFail}
use Rattle.request_routes.specs.declared.fail.RouteFail.TheVariants.{BadRequest, NoMemory}

abbrev pub json_failed : JsonFail → RouteFail
json_failed NotJson = BadRequest
json_failed (NotRecords position) = BadRequest
json_failed json_memory = NoMemory
