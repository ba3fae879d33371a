-- The messages of the worked histories: Celery's envelopes of a task.
use Rattle.std.specs.Prelude.{ℕ, [], ◌++◌, codes}
use Rattle.delivery_tags.specs.Tags.{tag}
use Rattle.queue_keys.specs.Names.{Bytes}
use Rattle.worked_histories.specs.Rows.{Message}

-- the compact text of the envelope of the task tasks.add of 2 and 3 under the tag t, by its exchange and routing key; each of the two marks stands before the member that follows it in byte order
abbrev pub celery_envelope : Bytes → Bytes → Bytes → Bytes → Bytes
celery_envelope t x k mark =
    codes "{\"body\":\"W1syLDNdLHt9LHsiY2FsbGJhY2tzIjpudWxsLCJjaGFpbiI6bnVsbCwiY2hvcmQiOm51bGwsImVycmJhY2tzIjpudWxsfV0=\",\"content-encoding\":\"utf-8\",\"content-type\":\"application/json\",\"headers\":{\"argsrepr\":\"[2,3]\",\"eta\":null,\"expires\":null,\"group\":null,\"id\":\""
    ++ t ++ codes "\",\"kwargsrepr\":\"{}\",\"lang\":\"py\",\"origin\":\"node\",\"parent_id\":null," ++ mark ++ codes "\"retries\":0,\"root_id\":\""
    ++ t ++ codes "\",\"task\":\"tasks.add\",\"timelimit\":[null,null]},\"properties\":{\"body_encoding\":\"base64\",\"correlation_id\":\""
    ++ t ++ codes "\",\"delivery_info\":{\"exchange\":\"" ++ x ++ codes "\"," ++ mark ++ codes "\"routing_key\":\"" ++ k
    ++ codes "\"},\"delivery_mode\":2,\"delivery_tag\":\"" ++ t ++ codes "\",\"priority\":0,\"reply_to\":\"\"}}"

-- the mark of redelivery
abbrev pub mark_text : Bytes
mark_text = codes "\"redelivered\":true,"

-- the compact text of the entry of an envelope: the array of its tree and its two names
abbrev pub celery_entry : Bytes → Bytes → Bytes → Bytes
celery_entry x k v = codes "[" ++ v ++ codes ",\"" ++ x ++ codes "\",\"" ++ k ++ codes "\"]"

-- the message of a seed and a counter, by its exchange and routing key
abbrev pub celery_message : ℕ → ℕ → Bytes → Bytes → Message
celery_message s n x k = let v = celery_envelope (tag s n) x k [] in let w = celery_envelope (tag s n) x k mark_text in record {
  tag = tag s n;
  envelope = v;
  entry = celery_entry x k v;
  marked = w;
  marked_entry = celery_entry x k w;
}
