-- What the code's requests ask for.
use Rattle.std.specs.Prelude.{Ok, Err, Result}
use Rattle.array_vec.specs.Held.{held}
use Rattle.requests.specs.Requests as means
use Rattle.requests.specs.declared.naks.Nak.{Nak}
use Rattle.requests.specs.declared.request.Request.{Request}
use Rattle.requests.specs.declared.request.Space.TheVariants.{Device, Counts}
use Rattle.requests.specs.declared.request.Request.TheVariants.{Ping, Init, Get, Put, Read, Write, Identify, Fragment, AddRoutes, DeleteRoutes, ListRoutes}

abbrev pub asked : Request → means.Request
asked Ping = means.asks means.ping
asked Init = means.does means.init
asked (Get Device addresses) = means.asks (means.get (held addresses))
asked (Get Counts addresses) = means.asks (means.get_counts (held addresses))
asked (Put Device assignments) = means.does (means.put (held assignments))
asked (Put Counts assignments) = means.does (means.put_counts (held assignments))
asked (Read memory start count) = means.asks (means.read memory start count)
asked (Write memory start bytes) = means.does (means.write memory start bytes.now)
asked Identify = means.asks means.identify
asked (Fragment number) = means.asks (means.fragment number)
asked (AddRoutes entries) = means.does (means.add_routes (held entries))
asked (DeleteRoutes entries) = means.does (means.delete_routes (held entries))
asked ListRoutes = means.asks means.list_routes

abbrev pub asked_in : Result Request Nak → Result means.Request Nak
asked_in (Ok q) = Ok (asked q)
asked_in (Err why) = Err why
