use Rattle.infer_c.proofs.mime.groups_of.Goals as goal

pub returns : goal.returns
returns c = record {
  image = c.is_image.result;
  media = c.is_audio_or_video.result;
  font = c.is_font.result;
  zip = c.is_zip_based.result;
  archive = c.is_archive.result;
  xml = c.is_xml.result;
  html = c.is_html.result;
  scriptable = c.is_scriptable.result;
  script = c.is_javascript.result;
  json = c.is_json.result;
  is_image = c.is_image.ensures;
  is_media = c.is_audio_or_video.ensures;
  is_font = c.is_font.ensures;
  is_zip = c.is_zip_based.ensures;
  is_archive = c.is_archive.ensures;
  is_xml = c.is_xml.ensures;
  is_html = c.is_html.ensures;
  is_scriptable = c.is_scriptable.ensures;
  is_script = c.is_javascript.ensures;
  is_json = c.is_json.ensures;
  sum = cc;
}
