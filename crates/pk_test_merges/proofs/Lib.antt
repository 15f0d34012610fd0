mod Beginning
mod Carried
